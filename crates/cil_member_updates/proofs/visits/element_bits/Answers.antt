use Rattle.cil_member_updates.proofs.Common.{◌≡◌, Some, rules, slice_get, subst, sym, leaves, element_of, meaning_in, name_in, set_of, Cover, element_holds, counts_at}
use Rattle.std.proofs.Common.{Contains}
use Rattle.cil_member_updates.proofs.NameLemmas.{cover-attribute, cover-type, there-mentioned}
use Rattle.cil_member_updates.proofs.SymbolLemmas.{symbol-name}
use Rattle.cil_member_updates.proofs.visits.element_bits.Goals as goal

pub returns-in-Type : goal.returns-in-Type
returns-in-Type g c =
    let r = c.args.reading.now.side.now.resolved.now in
    let symbols = c.args.reading.now.symbols.now in
    let k = c.in-Type.ty in
    let at : slice_get c.args.reading.now.side.now.numbering.now.symbols k ≡ Some c.unwrap.result = search rules in
    subst (λ e. Cover (element_holds symbols (meaning_in r) (element_of r.names.items e)) c.args.word c.symbol_bit.result) (sym c.in-Type.is)
    (cover-type symbols (meaning_in r) c.requires.reads.side.distinct c.unwrap.result c.args.word c.symbol_bit.result (name_in r k)
    (symbol-name symbols c.args.reading.now.side.now.numbering.now.symbols r.names.items c.requires.reads.side.numbers k c.unwrap.result at) c.symbol_bit.ensures)

pub returns-in-Attribute : goal.returns-in-Attribute
returns-in-Attribute g c =
    let r = c.args.reading.now.side.now.resolved.now in
    let symbols = c.args.reading.now.symbols.now in
    let k = c.in-Attribute.attribute in
    let at : slice_get c.args.reading.now.side.now.numbering.now.symbols k ≡ Some c.unwrap-in-Attribute.result = search rules in
    subst (λ e. Cover (element_holds symbols (meaning_in r) (element_of r.names.items e)) c.args.word c.members.result) (sym c.in-Attribute.is)
    (cover-attribute symbols (meaning_in r) (set_of c.args.reading.now) (counts_at c.args.reading.now.when c.args.rows.now) c.requires.reads.tell c.unwrap-in-Attribute.result c.args.word c.members.result (name_in r k)
    (symbol-name symbols c.args.reading.now.side.now.numbering.now.symbols r.names.items c.requires.reads.side.numbers k c.unwrap-in-Attribute.result at)
    (there-mentioned (name_in r k) (set_of c.args.reading.now).expr (subst (λ e. Contains (leaves (set_of c.args.reading.now).expr) (element_of r.names.items e)) c.in-Attribute.is c.requires.named))
    c.members.ensures)
