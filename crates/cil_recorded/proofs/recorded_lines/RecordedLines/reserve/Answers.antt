use Rattle.std.proofs.Common.{refl, arith}
use Rattle.cil_lines.proofs.DigitLemmas.{OnOk-map}
use Rattle.cil_recorded.proofs.recorded_lines.RecordedLines.reserve.Goals as goal

pub invariant_of-self : goal.invariant_of-self
invariant_of-self g c = rw c.reserve.ensures.items c.self.invariant

pub returns-clause-room : goal.returns-clause-room
returns-clause-room g c = OnOk-map c.reserve.result (λ ok. omega (arith, ok)) c.reserve.ensures.ok

pub returns-clause-before : goal.returns-clause-before
returns-clause-before g c l t = rw (c.reserve.ensures.items, ← c.self.view_is) refl
