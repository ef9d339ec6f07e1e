use Rattle.cil_member_updates.proofs.Common.{◌≡◌, ◌∙◌, Some, ap, rules, slice_get, name_in, sets_in, no_set, slice_get_within}
use Rattle.cil_member_updates.proofs.SymbolLemmas.{read-at, symbol-name}
use Rattle.cil_member_updates.proofs.side.row_of.Goals as goal

pub returns-clause-row : goal.returns-clause-row
returns-clause-row g c =
    let reading = c.args.reading.now in
    let r = reading.side.now.resolved.now in
    let numbers = reading.side.now.numbering.now.symbols in
    let k = c.unwrap-attribute.result in
    let found : c.set_attribute.result ≡ Some k = search rules in
    let at : slice_get numbers k ≡ Some c.unwrap.result = search rules in
    symbol-name reading.symbols.now numbers r.names.items c.requires.side.numbers k c.unwrap.result at
    ∙ ap Some (read-at (name_in r) (λ s. s.attribute) (sets_in r) reading.place no_set c.requires.within c.set_attribute.result c.set_attribute.ensures.name k found)

pub returns-clause-within : goal.returns-clause-within
returns-clause-within g c =
    let reading = c.args.reading.now in
    let at : slice_get reading.side.now.numbering.now.symbols c.unwrap-attribute.result ≡ Some c.unwrap.result = search rules in
    slice_get_within reading.symbols.now c.unwrap.result _ (symbol-name reading.symbols.now reading.side.now.numbering.now.symbols reading.side.now.resolved.now.names.items c.requires.side.numbers c.unwrap-attribute.result c.unwrap.result at)
