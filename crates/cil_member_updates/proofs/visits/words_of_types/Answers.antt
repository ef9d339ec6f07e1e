use Rattle.cil_member_updates.proofs.Common.{ℕ, get_or, subst, arith, below_more, «Type», IsOutside, element_of, meaning_in, set_of, leaves, Cover, element_holds}
use Rattle.cil_member_updates.proofs.PlaceLemmas.{set-there}
use Rattle.cil_member_updates.proofs.SymbolLemmas.{place-of}
use Rattle.cil_member_updates.proofs.visits.words_of_types.Goals as goal

pub loop-k-preserved : goal.loop-k-preserved
loop-k-preserved g c =
    let r = c.args.reading.now.side.now.resolved.now in
    below_more (λ m. (w : ℕ) → IsOutside c.joined-words.result w → Cover (element_holds c.args.reading.now.symbols.now (meaning_in r) (element_of r.names.items (get_or c.set_names-names.result.now m («Type» 0)))) w 0)
    c.loop-k.k (λ m within w outside. c.loop-k.invariant m within w (c.joined-words.ensures.outside w outside).0) (λ w outside. c.in_ok-word_of_type.ensures {u = tt} w (c.joined-words.ensures.outside w outside).1)

pub returns : goal.returns
returns g c w outside element there =
    let r = c.args.reading.now.side.now.resolved.now in
    let names = c.set_names-names.result.now in
    let (m, within, same) = place-of (element_of r.names.items) names («Type» 0) (leaves (set_of c.args.reading.now).expr) element (c.set_names-names.ensures.names (set_of c.args.reading.now) (set-there r c.args.reading.now.place c.requires.within)) there in
    subst (λ e. Cover (element_holds c.args.reading.now.symbols.now (meaning_in r) e) w 0) same (c.loop-k.invariant m (let end = c.loop-k-test.false in omega (arith, within, end)) w outside)
