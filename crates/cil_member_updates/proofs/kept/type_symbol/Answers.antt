use Rattle.cil_member_updates.proofs.Common.{◌≡◌, ◌∙◌, Some, ap, rules, slice_get, meaning_in, name_in, no_declared}
use Rattle.cil_member_updates.proofs.SymbolLemmas.{read-at, symbol-name}
use Rattle.cil_member_updates.proofs.kept.type_symbol.Goals as goal

pub returns : goal.returns
returns g c =
    let r = c.args.resolved.now in
    let numbers = c.args.numbering.now.symbols in
    let k = c.unwrap-number.result in
    let found : c.type_number.result ≡ Some k = search rules in
    let at : slice_get numbers k ≡ Some c.unwrap.result = search rules in
    symbol-name c.args.symbols.now numbers r.names.items c.requires.numbers k c.unwrap.result at
    ∙ ap Some (read-at (name_in r) (λ d. d.name) (meaning_in r).types c.args.i no_declared c.requires.within c.type_number.result c.type_number.ensures.name k found)
