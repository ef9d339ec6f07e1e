use Rattle.std.proofs.Common.{◌∙◌, ap, sym, bytes_eq}
use Rattle.std.proofs.lemmas.List.Sorted.{list_any-IsPermutation}
use Rattle.std.proofs.lemmas.Result.{on_ok_weaker}
use Rattle.cil_specs.specs.Lookup.{has_name}
use Rattle.cil_names.proofs.TextLemmas.{distinct-texts, has_name-texts, names_rise-by}
use Rattle.cil_names.proofs.names.Names.sort.Goals as goal

pub invariant_of-self : goal.invariant_of-self
invariant_of-self g c = distinct-texts (λ name. name.text.now) c.sort_unstable.new.self.keys c.sort_unstable.ensures.unique

pub returns-clause-ordered : goal.returns-clause-ordered
returns-clause-ordered g c =
    on_ok_weaker c.sort_unstable.result (λ sorted. names_rise-by (λ name. name.text.now) c.sort_unstable.new.self.keys sorted c.sort_unstable.ensures.unique)
    c.sort_unstable.ensures.sorted

pub returns-clause-same : goal.returns-clause-same
returns-clause-same g c = λ name.
    let old = c.self.inside.names.keys in
    let new = c.sort_unstable.new.self.keys in
    sym (has_name-texts (λ n. n.text.now) new name) ∙ sym (list_any-IsPermutation (λ k. bytes_eq name k.text.now) old new c.sort_unstable.ensures.reordered.0)
    ∙ has_name-texts (λ n. n.text.now) old name ∙ ap (λ s. has_name s name) c.self.view_is
