use Rattle.cil_member_updates.proofs.Common.{◌≡◌, Some, rules, slice_get, subst, sym, count_before, count_now, IsOutside, element_of, name_in, IsUnchanged}
use Rattle.cil_member_updates.proofs.StayLemmas.{unchanged-word}
use Rattle.cil_member_updates.proofs.SymbolLemmas.{symbol-name}
use Rattle.cil_member_updates.proofs.visits.words_of_name.Goals as goal

pub returns-in-Attribute : goal.returns-in-Attribute
returns-in-Attribute g c w outside =
    let r = c.args.reading.now.side.now.resolved.now in
    let symbols = c.args.reading.now.symbols.now in
    let k = c.in-Attribute.attribute in
    let at : slice_get c.args.reading.now.side.now.numbering.now.symbols k ≡ Some c.unwrap.result = search rules in
    subst (λ e. IsUnchanged symbols (count_before c.args.rows.now) (count_now c.args.rows.now) (element_of r.names.items e) w 0) (sym c.in-Attribute.is)
    (unchanged-word symbols (count_before c.args.rows.now) (count_now c.args.rows.now) c.requires.side.distinct c.unwrap.result (name_in r k)
    (symbol-name symbols c.args.reading.now.side.now.numbering.now.symbols r.names.items c.requires.side.numbers k c.unwrap.result at) w (λ t here. c.turned_words.ensures.same t (subst (IsOutside c.turned_words.result) (sym here) outside)))
