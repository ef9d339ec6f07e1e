use Rattle.std.proofs.Common.{length}
use Rattle.cil_symbol_changes.specs.SourceOrder.{IsAt}
use Rattle.cil_symbol_changes.proofs.OrderLemmas.{AreMissing}
use Rattle.cil_symbol_changes.proofs.present_chunks.push_lines.Given as goal

-- the lines that are left are missing
abbrev pub invariant-loop-source : goal.invariant-loop-source
invariant-loop-source g l =
    AreMissing (IsAt l.numbers l.lines) l.order l.left l.fn.growing.chunks.items
    l.growing.chunks.items

abbrev pub decreases-loop-source : goal.decreases-loop-source
decreases-loop-source g l = length l.left
