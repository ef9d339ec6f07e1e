use Rattle.cil_member_rows.proofs.HoldLemmas.{up_to-more}
use Rattle.cil_member_rows.proofs.member_rows.settling.hold.Goals as goal

pub loop-step-preserved : goal.loop-step-preserved
loop-step-preserved g c =
    up_to-more c.args.held.now.items c.args.rows.now c.requires c.loop-step.held.items c.put.new.rows.items c.loop-step.step c.place-place.result.line c.place-place.result.word c.present-present.result
    c.loop-step.invariant c.place-place.ensures.line c.place-place.ensures.word c.present-present.ensures c.put.ensures.rows c.put.ensures.words c.put.ensures.here c.put.ensures.others
