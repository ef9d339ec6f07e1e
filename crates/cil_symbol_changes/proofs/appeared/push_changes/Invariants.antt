use Rattle.std.proofs.Common.{length}
use Rattle.cil_symbol_changes.specs.SourceOrder.{HasAppeared}
use Rattle.cil_symbol_changes.proofs.OrderLemmas.{AreMissing}
use Rattle.cil_symbol_changes.proofs.appeared.push_changes.Given as goal

-- the changes that are left are missing
abbrev pub invariant-loop-source : goal.invariant-loop-source
invariant-loop-source g l =
    AreMissing (HasAppeared l.numbers l.lines l.changes) l.order l.left l.fn.growing.chunks.items
    l.growing.chunks.items

abbrev pub decreases-loop-source : goal.decreases-loop-source
decreases-loop-source g l = length l.left
