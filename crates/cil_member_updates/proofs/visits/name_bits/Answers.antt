use Rattle.cil_member_updates.proofs.Common.{get_or, subst, arith, «Type», element_of, meaning_in, set_of, leaves, Cover, element_holds}
use Rattle.cil_member_updates.proofs.PlaceLemmas.{set-there}
use Rattle.cil_member_updates.proofs.BitLemmas.{cover-more}
use Rattle.cil_member_updates.proofs.SymbolLemmas.{place-of}
use Rattle.cil_member_updates.proofs.visits.name_bits.Goals as goal

pub loop-k-preserved : goal.loop-k-preserved
loop-k-preserved g c =
    let r = c.args.reading.now.side.now.resolved.now in
    let names = c.set_names-names.result.now in
    cover-more (λ m. element_holds c.args.reading.now.symbols.now (meaning_in r) (element_of r.names.items (get_or names m («Type» 0)))) c.loop-k.k c.args.word c.loop-k.bits c.element_bits-bits.result c.loop-k.invariant c.element_bits-bits.ensures

pub returns : goal.returns
returns g c element there =
    let r = c.args.reading.now.side.now.resolved.now in
    let names = c.set_names-names.result.now in
    let (m, within, same) = place-of (element_of r.names.items) names («Type» 0) (leaves (set_of c.args.reading.now).expr) element (c.set_names-names.ensures.names (set_of c.args.reading.now) (set-there r c.args.reading.now.place c.requires.within)) there in
    subst (λ e. Cover (element_holds c.args.reading.now.symbols.now (meaning_in r) e) c.args.word c.loop-k.bits) same (c.loop-k.invariant m (let end = c.loop-k-test.false in omega (arith, within, end)))
