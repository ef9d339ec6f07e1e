use Rattle.cil_keyed_lines.proofs.Common.{◌^◌, ◌<◌, take, All}
use Rattle.cil_recorded.specs.declared.recorded_lines.changes.Change.{Change}
use Rattle.cil_keyed_lines.specs.Past.{AreMarked}
use Rattle.cil_keyed_lines.proofs.keyed_lines.past.marks.Given as goal

-- the lines of the changes so far are marked
abbrev pub invariant-loop-change : goal.invariant-loop-change
invariant-loop-change g l = record {
  marked : AreMarked l.marks.items (take l.change-index l.changes);
  short : All (λ (c : Change). c.word < 2 ^ 64) (take l.change-index l.changes);
}
