use Rattle.cil_table_updates.proofs.Common.{◌≡◌, ◌+◌, ℕ, adjustments_in, evaluations_in, below, RisesBy, sum_below, SymbolKey, count_now, steps_in, comes, given}
use Rattle.cil_table_updates.proofs.loading.add_rules.Given as goal

-- what the rules so far give is added
abbrev pub invariant-loop-j : goal.invariant-loop-j
invariant-loop-j g l = record {
  settled : steps_in l.lines ≡ 0;
  now : (key : SymbolKey) (t : ℕ) → count_now l.lines key t ≡ count_now l.fn.lines key t + sum_below (given l.policy key t) l.j;
  adjustments : RisesBy (below (comes l.policy) l.j) (adjustments_in l.fn.meter) (adjustments_in l.meter);
  evaluations : evaluations_in l.meter ≡ evaluations_in l.fn.meter;
}
