use Rattle.cil_member_updates.proofs.Common.{◌≡◌, ◌==◌, ◌+◌, ◌*◌, Some, arith, inl, inr, ne_eqb, rules, slice_get, subst, sym, element_of, meaning_in, name_in, Cover, element_holds}
use Rattle.cil_member_updates.proofs.NameLemmas.{cover-type}
use Rattle.cil_member_updates.proofs.SymbolLemmas.{symbol-name}
use Rattle.cil_member_updates.proofs.visits.word_of_type.Goals as goal

pub returns-in-Type : goal.returns-in-Type
returns-in-Type g c w outside =
    let r = c.args.reading.now.side.now.resolved.now in
    let symbols = c.args.reading.now.symbols.now in
    let k = c.in-Type.ty in
    let symbol = c.unwrap-symbol.result in
    let at : slice_get c.args.reading.now.side.now.numbering.now.symbols k ≡ Some symbol = search rules in
    let apart : Cover (λ t. symbol == t) w 0 = λ b within none. ne_eqb symbol (64 * w + b) (λ same. elim outside [
      | inl low ↦ let first = c.one.ensures.first in omega (arith, same, within, low, first)
      | inr high ↦ let end = c.one.ensures.end in omega (arith, same, within, high, end)
    ]) in
    subst (λ e. Cover (element_holds symbols (meaning_in r) (element_of r.names.items e)) w 0) (sym c.in-Type.is)
    (cover-type symbols (meaning_in r) c.requires.side.distinct symbol w 0 (name_in r k) (symbol-name symbols c.args.reading.now.side.now.numbering.now.symbols r.names.items c.requires.side.numbers k symbol at) apart)
