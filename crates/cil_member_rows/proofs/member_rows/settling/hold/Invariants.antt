use Rattle.cil_member_rows.proofs.HoldLemmas.{IsUpTo}
use Rattle.cil_member_rows.proofs.member_rows.settling.hold.Given as goal

abbrev pub invariant-loop-step : goal.invariant-loop-step
invariant-loop-step g l = IsUpTo l.fn.held.items l.held.items l.rows l.step
