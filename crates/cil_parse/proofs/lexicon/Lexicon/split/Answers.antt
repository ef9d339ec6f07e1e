use Rattle.cil_parse.proofs.Common.{refl, ap, subst, ◌∙◌, slice_split, AddsNames, Lexicon}
use Rattle.cil_text.proofs.NameLemmas.{components_split}
use Rattle.cil_parse.proofs.SplitLemmas.{is_dot}
use Rattle.cil_parse.proofs.AddsLemmas.{splits-text}
use Rattle.cil_parse.proofs.lexicon.Lexicon.split.Goals as goal

pub returns : goal.returns
returns g c =
    let mid = c.push_names.new.self in
    let new : Lexicon g.row.A.Denot = record { texts = mid.texts; names = mid.names; components = c.close.new.self } in
    splits-text c.args.self.now mid new c.args.text.now
    (subst (AddsNames c.args.self.now mid) (ap (slice_split is_dot) c.without_dot.ensures ∙ components_split c.args.text.now) c.in_ok-push_names.ensures) refl refl c.in_ok-close.ensures.ok
