use Rattle.cil_keyed_lines.proofs.Common.{◌^◌, ◌-◌, ◌≤◌}
use Rattle.cil_keyed_lines.specs.Changes.{AreBelow, AreChangedBelow}
use Rattle.cil_keyed_lines.proofs.keyed_lines.KeyedLines.push_changes.Given as goal

-- the changes of the words so far stand there
abbrev pub invariant-loop-word : goal.invariant-loop-word
invariant-loop-word g l = record {
  fits : l.from ≤ 2 ^ 64;
  below : AreBelow l.changes.items l.place l.from;
  changed : AreChangedBelow l.self l.place l.from l.fn.changes.items l.changes.items;
}

abbrev pub decreases-loop-word : goal.decreases-loop-word
decreases-loop-word g l = 2 ^ 64 - l.from
