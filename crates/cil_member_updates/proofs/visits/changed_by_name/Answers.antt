use Rattle.cil_member_updates.proofs.Common.{◌≡◌, Some, rules, slice_get, subst, sym, count_before, count_now, element_of, name_in, IsTurnedAt, IsUnchanged}
use Rattle.cil_member_updates.proofs.NameLemmas.{unchanged-row}
use Rattle.cil_member_updates.proofs.SymbolLemmas.{symbol-name}
use Rattle.cil_member_updates.proofs.TurnedLemmas.{turned-none, turned-row}
use Rattle.cil_member_updates.proofs.visits.changed_by_name.Goals as goal

pub returns-in-Type-clause-turned : goal.returns-in-Type-clause-turned
returns-in-Type-clause-turned g c = turned-none c.args.reading.now.symbols.now (count_before c.args.rows.now) (count_now c.args.rows.now) (element_of c.args.reading.now.side.now.resolved.now.names.items c.args.element) c.args.word

pub returns-in-Attribute : goal.returns-in-Attribute
returns-in-Attribute g c =
    let side = c.args.reading.now.side.now in
    let names = side.resolved.now.names.items in
    let symbols = c.args.reading.now.symbols.now in
    let before = count_before c.args.rows.now in
    let now = count_now c.args.rows.now in
    let k = c.in-Attribute.attribute in
    let at : slice_get side.numbering.now.symbols k ≡ Some c.unwrap-row.result = search rules in
    let named = symbol-name symbols side.numbering.now.symbols names c.requires.side.numbers k c.unwrap-row.result at in
    let name = name_in side.resolved.now k in
    record {
      unchanged = subst (λ e. IsUnchanged symbols before now (element_of names e) c.args.word c.changed.result) (sym c.in-Attribute.is)
          (unchanged-row symbols before now c.requires.side.distinct c.unwrap-row.result c.args.word c.changed.result name named c.changed.ensures);
      turned = subst (λ e. IsTurnedAt symbols before now (element_of names e) c.args.word c.changed.result) (sym c.in-Attribute.is)
          (turned-row symbols before now c.unwrap-row.result c.args.word c.changed.result name named c.changed.ensures);
    }
