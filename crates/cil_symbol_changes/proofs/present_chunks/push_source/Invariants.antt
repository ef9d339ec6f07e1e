use Rattle.cil_symbol_changes.proofs.Common.{take, AreGained, IsAmong, IsAt}
use Rattle.cil_symbol_changes.proofs.present_chunks.push_source.Given as goal

-- the lines so far are taken
abbrev pub invariant-loop-at : goal.invariant-loop-at
invariant-loop-at g l =
    AreGained (IsAmong (IsAt l.numbers l.lines) (take l.at-index l.source))
    l.fn.growing.chunks.items l.growing.chunks.items
