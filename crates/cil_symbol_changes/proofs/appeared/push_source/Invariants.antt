use Rattle.cil_symbol_changes.proofs.Common.{take, AreGained, HasAppeared, IsAmong}
use Rattle.cil_symbol_changes.proofs.appeared.push_source.Given as goal

-- the changes so far are taken
abbrev pub invariant-loop-at : goal.invariant-loop-at
invariant-loop-at g l =
    AreGained (IsAmong (HasAppeared l.numbers l.lines l.changes) (take l.at-index l.source))
    l.fn.growing.chunks.items l.growing.chunks.items
