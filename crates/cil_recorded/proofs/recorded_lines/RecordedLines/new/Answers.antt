use Rattle.std.proofs.Common.{[], arith}
use Rattle.cil_recorded.proofs.LogLemmas.{count_past, sound_settled}
use Rattle.cil_recorded.proofs.recorded_lines.RecordedLines.new.Goals as goal

pub invariant_of-result : goal.invariant_of-result
invariant_of-result g c = rw c.new-2.ensures.items (sound_settled c.new.result.items)

pub returns-clause-now : goal.returns-clause-now
returns-clause-now g c l t = rw c.new.ensures.items (count_past [] l t (omega arith))

pub returns-clause-before : goal.returns-clause-before
returns-clause-before g c l t = rw (c.new.ensures.items, c.new-2.ensures.items) (count_past [] l t (omega arith))
