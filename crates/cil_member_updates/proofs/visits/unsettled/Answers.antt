use Rattle.cil_member_updates.proofs.Common.{subst, AreVisits, is_held, was_held}
use Rattle.cil_member_updates.proofs.BitLemmas.{cover-either, set-among}
use Rattle.cil_member_updates.proofs.visits.unsettled.Goals as goal

pub returns-then-bits-eq0 : goal.returns-then-bits-eq0
returns-then-bits-eq0 g c = subst (AreVisits c.args.stayed.now c.args.word) c.if-bits-eq0.true c.touched-bits.ensures

pub returns : goal.returns
returns g c = record {
  cover = cover-either (was_held c.args.stayed.now) (is_held c.args.stayed.now) c.args.word c.touched-bits.result c.reached_among-reached_was.result c.reached_among-reached_is.result c.touched-bits.ensures.cover c.reached_among-reached_was.ensures c.reached_among-reached_is.ensures;
  unsettled = λ b within set keeps. c.touched-bits.ensures.unsettled b within (set-among c.touched-bits.result _ b set) keeps;
}
