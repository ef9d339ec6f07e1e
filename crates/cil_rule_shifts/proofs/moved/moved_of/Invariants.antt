use Rattle.std.proofs.Common.{◌-◌, ◌^◌}
use Rattle.cil_rule_shifts.specs.Groups.{AreMovesBelow}
use Rattle.cil_rule_shifts.specs.Reach.{takes}
use Rattle.cil_rule_shifts.proofs.moved.moved_of.Given as goal

-- what moves in the words so far is listed
abbrev pub invariant-loop-word : goal.invariant-loop-word
invariant-loop-word g l = AreMovesBelow (takes l.was l.source) (takes l.is l.source) l.word l.moved.items

abbrev pub decreases-loop-word : goal.decreases-loop-word
decreases-loop-word g l = 2 ^ 58 - l.word
