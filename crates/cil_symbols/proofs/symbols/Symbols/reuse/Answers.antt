use Rattle.cil_symbols.proofs.Common.{◌∙◌, ◌<◌, ap, length, set, sym, subst, has_name, distinct-texts, texts}
use Rattle.cil_symbols.proofs.InUseLemmas.{reused}
use Rattle.cil_symbols.proofs.symbols.Symbols.reuse.Goals as goal

pub invariant_of-self-2 : goal.invariant_of-self-2
invariant_of-self-2 g c = distinct-texts (λ key. key.text.items) c.swap_remove_index-other.new.self.keys c.swap_remove_index-other.ensures.unique

pub returns-clause-ok : goal.returns-clause-ok
returns-clause-ok g c =
    let names = c.self.inside.names.keys in
    let name = c.in_ok-text.text in
    let text = c.in_ok-text.ensures.items in
    reused (λ key. key.text.items) names (record { text = name }) c.args.number c.insert.new.self.keys c.swap_remove_index-other.result c.swap_remove_index-other.new.self.keys
    (subst (λ l. c.args.number < length l) (sym c.self.view_is) c.requires.number)
    (ap (has_name (texts (λ key. key.text.items) names)) text ∙ ap (λ l. has_name l c.args.name.now) c.self.view_is ∙ c.requires.new)
    c.in_ok-insert.ensures.keys c.swap_remove_index-other.ensures.key c.swap_remove_index-other.ensures.keys
    ∙ ap (λ l. set l c.args.number name.items) c.self.view_is
    ∙ ap (set c.args.self.now c.args.number) text
