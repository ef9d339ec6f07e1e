use Rattle.cil_member_updates.proofs.Common.{◌≡◌, ◌∙◌, ◌||◌, Some, length, rules, slice_get, slice_get_within, subst, ap, sym, true, arith, leaves, ltb-true, element_of, element_holds, is_set, meaning_in, name_in, set_of, counts_at}
use Rattle.std.proofs.Common.{Contains}
use Rattle.cil_resolve.specs.Below.{is_element_below}
use Rattle.cil_member_updates.proofs.NameLemmas.{keeps-name, there-mentioned}
use Rattle.cil_member_updates.proofs.PlainLemmas.{attribute-holds, type-holds}
use Rattle.cil_member_updates.proofs.SymbolLemmas.{symbol-name, symbol-some}
use Rattle.cil_member_updates.proofs.plain_list.add_name.Goals as goal

pub add_symbol-requires : goal.add_symbol-requires
add_symbol-requires g c =
    let side = c.args.reading.now.side.now in
    let symbols = c.args.reading.now.symbols.now in
    let k = c.in-Type.ty in
    let at : slice_get side.numbering.now.symbols k ≡ Some c.unwrap.result = search rules in
    let within = slice_get_within symbols c.unwrap.result (name_in side.resolved.now k) (symbol-name symbols side.numbering.now.symbols side.resolved.now.names.items c.requires.reads.side.numbers k c.unwrap.result at) in
    let long = c.requires.long in
    omega (arith, within, long)

pub unwrap-requires-in-Attribute : goal.unwrap-requires-in-Attribute
unwrap-requires-in-Attribute g c =
    let side = c.args.reading.now.side.now in
    let names = side.resolved.now.names.items in
    let k = c.in-Attribute.attribute in
    let low = ltb-true k (length names) (subst (λ e. is_element_below (length names) e ≡ true) c.in-Attribute.is c.requires.below) in
    let is = c.symbol-in-Attribute.ensures.symbol ∙ symbol-some c.args.reading.now.symbols.now side.numbering.now.symbols names c.requires.reads.side.numbers k low in
    search rules

pub returns-in-Type-clause-set : goal.returns-in-Type-clause-set
returns-in-Type-clause-set g c t may =
    let r = c.args.reading.now.side.now.resolved.now in
    let symbols = c.args.reading.now.symbols.now in
    let k = c.in-Type.ty in
    let at : slice_get c.args.reading.now.side.now.numbering.now.symbols k ≡ Some c.unwrap.result = search rules in
    c.add_symbol.ensures.set t
    ∙ ap (λ b. is_set c.args.words.now t || b)
    (sym (type-holds symbols (meaning_in r) t may c.requires.reads.side.distinct c.unwrap.result (name_in r k)
    (symbol-name symbols c.args.reading.now.side.now.numbering.now.symbols r.names.items c.requires.reads.side.numbers k c.unwrap.result at))
    ∙ ap (λ e. element_holds symbols (meaning_in r) (element_of r.names.items e) t) (sym c.in-Type.is))

pub returns-in-Attribute-clause-set : goal.returns-in-Attribute-clause-set
returns-in-Attribute-clause-set g c t may =
    let r = c.args.reading.now.side.now.resolved.now in
    let symbols = c.args.reading.now.symbols.now in
    let k = c.in-Attribute.attribute in
    let row = c.unwrap-in-Attribute.result in
    let at : slice_get c.args.reading.now.side.now.numbering.now.symbols k ≡ Some row = search rules in
    let (name, here, kept) = keeps-name symbols (meaning_in r) t may in
    let within = slice_get_within symbols t name here in
    let long = c.requires.long in
    c.add_members.ensures.set t (omega (arith, within, long))
    ∙ ap (λ b. is_set c.args.words.now t || b)
    (sym (attribute-holds symbols (meaning_in r) t may (set_of c.args.reading.now) (counts_at c.args.reading.now.when c.args.rows.now) c.requires.reads.tell row (name_in r k)
    (symbol-name symbols c.args.reading.now.side.now.numbering.now.symbols r.names.items c.requires.reads.side.numbers k row at)
    (there-mentioned (name_in r k) (set_of c.args.reading.now).expr (subst (λ e. Contains (leaves (set_of c.args.reading.now).expr) (element_of r.names.items e)) c.in-Attribute.is c.requires.named)))
    ∙ ap (λ e. element_holds symbols (meaning_in r) (element_of r.names.items e) t) (sym c.in-Attribute.is))
