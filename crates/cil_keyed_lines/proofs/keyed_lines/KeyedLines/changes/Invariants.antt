use Rattle.cil_keyed_lines.specs.Changes.{AreBelow, AreChangedTo}
use Rattle.cil_keyed_lines.proofs.keyed_lines.KeyedLines.changes.Given as goal

-- the changes of the places so far stand there
abbrev pub invariant-loop-place : goal.invariant-loop-place
invariant-loop-place g l = record {
  below : AreBelow l.changes.items l.place 0;
  changed : AreChangedTo l.self l.place l.changes.items;
}
