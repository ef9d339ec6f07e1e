use Rattle.std.proofs.Common.{◌-◌, ◌^◌}
use Rattle.cil_rule_shifts.specs.Groups.{AreMovesBelow}
use Rattle.cil_rule_shifts.specs.Reach.{is_present}
use Rattle.cil_rule_shifts.proofs.moved.lines_moved.Given as goal

-- what moves in the words so far is listed
abbrev pub invariant-loop-word : goal.invariant-loop-word
invariant-loop-word g l = AreMovesBelow (is_present l.was) (is_present l.is) l.word l.moved.items

abbrev pub decreases-loop-word : goal.decreases-loop-word
decreases-loop-word g l = 2 ^ 58 - l.word
