use Rattle.cil_rule_shifts.proofs.Common.{ℕ, ◌≡◌, ◌+◌, ◌-◌, ◌^◌, ◌&&◌, false, true, nat_lt, count_now, is_among, one_if, steps_in, SymbolKey, RisesBy}
use Rattle.cil_keyed_lines.specs.Keyed.{Keyed, StaysBefore}
use Rattle.cil_rule_shifts.specs.Groups.{had_by, has_by}
use Rattle.cil_rule_shifts.specs.declared.group.Group.{Group}
use Rattle.cil_rule_shifts.proofs.KeyLemmas.{moves_below}
use Rattle.cil_rule_shifts.proofs.group.Group.shift_each.Given as goal

-- the counters of the keys of the sources so far are moved
pub record AreMovedBelow {A : Type 0} (old new : Keyed) (group : Group A) (from count : ℕ) : Type 0 where
  pub now : (k : SymbolKey) (t : ℕ) → count_now new k t + one_if (nat_lt k.source from && had_by (is_among group.sources) group (k, t))
      ≡ count_now old k t + one_if (nat_lt k.source from && has_by (is_among group.sources) group (k, t))
  pub before : group.for_good ≡ false → StaysBefore old new
  pub settled : group.for_good ≡ true → steps_in new ≡ 0
  pub moved : RisesBy (moves_below (is_among group.sources) group.head group.was.now group.is.now from) 0 count

abbrev pub invariant-loop-source : goal.invariant-loop-source
invariant-loop-source g l = AreMovedBelow l.fn.lines l.lines l.self l.from l.moved

abbrev pub decreases-loop-source : goal.decreases-loop-source
decreases-loop-source g l = 2 ^ 64 - l.from
