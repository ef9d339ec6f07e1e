use Rattle.std.proofs.Common.{◌∙◌, ap, not}
use Rattle.cil_specs.specs.Lookup.{has_name, with_name}
use Rattle.cil_names.proofs.TextLemmas.{distinct-texts, has_name-texts, stored-text, texts, with_name-texts}
use Rattle.cil_names.proofs.names.Names.insert.Goals as goal

pub invariant_of-self-2 : goal.invariant_of-self-2
invariant_of-self-2 g c = distinct-texts (λ name. name.text.now) c.insert_full.new.self.keys c.in_ok-number.ensures.unique

pub returns-clause-number : goal.returns-clause-number
returns-clause-number g c =
    stored-text (λ name. name.text.now) c.insert_full.new.self.keys (record { text = c.args.name }) c.in_ok-number.number c.in_ok-number.ensures.stored

pub returns-clause-added : goal.returns-clause-added
returns-clause-added g c =
    c.in_ok-number.ensures.added
    ∙ ap not (has_name-texts (λ name. name.text.now) c.self.inside.names.keys c.args.name.now ∙ ap (λ s. has_name s c.args.name.now) c.self.view_is)

pub returns-clause-ok : goal.returns-clause-ok
returns-clause-ok g c =
    ap (texts (λ name. name.text.now)) c.in_ok-number.ensures.keys ∙ with_name-texts (λ name. name.text.now) c.self.inside.names.keys (record { text = c.args.name })
    ∙ ap (λ s. with_name s c.args.name.now) c.self.view_is

pub returns-clause-distinct : goal.returns-clause-distinct
returns-clause-distinct g c = distinct-texts (λ name. name.text.now) c.insert_full.new.self.keys c.in_ok-number.ensures.unique
