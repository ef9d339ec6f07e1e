use Rattle.cil_symbols.proofs.Common.{◌∙◌, ap, sym, Some, with_name, texts, distinct-texts, found-name, stored-text, with_name-texts}
use Rattle.cil_symbols.proofs.NameLemmas.{known-name}
use Rattle.cil_symbols.proofs.symbols.Symbols.number.Goals as goal

pub returns-in-Some-clause-number : goal.returns-in-Some-clause-number
returns-in-Some-clause-number g c = found-name c.args.self.now c.args.name.now c.in-Some.n (sym c.in-Some.ensures)

pub returns-in-Some-clause-ok : goal.returns-in-Some-clause-ok
returns-in-Some-clause-ok g c = sym (known-name c.args.self.now c.args.name.now c.in-Some.n (sym c.in-Some.ensures))

pub invariant_of-self-2 : goal.invariant_of-self-2
invariant_of-self-2 g c = distinct-texts (λ key. key.text.items) c.insert_full.new.self.keys c.in_ok-n.ensures.unique

pub returns-clause-number : goal.returns-clause-number
returns-clause-number g c =
    stored-text (λ key. key.text.items) c.insert_full.new.self.keys (record { text = c.in_ok-text.text }) c.in_ok-n.n c.in_ok-n.ensures.stored ∙ ap Some c.in_ok-text.ensures.items

pub returns-clause-ok : goal.returns-clause-ok
returns-clause-ok g c =
    let keys = c.self.inside.names.keys in
    ap (texts (λ key. key.text.items)) c.in_ok-n.ensures.keys ∙ with_name-texts (λ key. key.text.items) keys (record { text = c.in_ok-text.text }) ∙ ap (with_name (texts (λ key. key.text.items) keys)) c.in_ok-text.ensures.items
    ∙ ap (λ s. with_name s c.args.name.now) c.self.view_is
