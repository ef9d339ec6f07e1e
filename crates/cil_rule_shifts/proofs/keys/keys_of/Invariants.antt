use Rattle.std.proofs.Common.{◌-◌, ◌^◌, ◌&&◌, nat_lt}
use Rattle.cil_rule_shifts.specs.Groups.{is_among, AreKeysOf}
use Rattle.cil_rule_shifts.proofs.keys.keys_of.Given as goal

-- the keys of the sources so far are listed
abbrev pub invariant-loop-source : goal.invariant-loop-source
invariant-loop-source g l = AreKeysOf (λ s. nat_lt s l.from && is_among l.sources s) l.head l.keys.items

abbrev pub decreases-loop-source : goal.decreases-loop-source
decreases-loop-source g l = 2 ^ 64 - l.from
