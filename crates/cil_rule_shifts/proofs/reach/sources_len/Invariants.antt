use Rattle.std.proofs.Common.{◌-◌, ◌^◌}
use Rattle.cil_rule_shifts.proofs.reach.sources_len.Given as goal

abbrev pub decreases-loop-word : goal.decreases-loop-word
decreases-loop-word g l = 2 ^ 64 - l.from
