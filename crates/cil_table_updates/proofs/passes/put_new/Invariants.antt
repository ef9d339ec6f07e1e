use Rattle.cil_table_updates.proofs.Common.{◌≡◌, ◌+◌, ℕ, adjustments_in, evaluations_in, below, RisesBy, across, sum_below, SymbolKey, count_now, turns, given}
use Rattle.cil_keyed_lines.specs.Keyed.{count_before}
use Rattle.cil_table_updates.proofs.passes.put_new.Given as goal

-- the rules so far are put in, in place of what they gave in the old policy
abbrev pub invariant-loop-j : goal.invariant-loop-j
invariant-loop-j g l = record {
  now : (key : SymbolKey) (t : ℕ) → count_now l.lines key t + sum_below (across (given l.update.old.now key t) l.update.matching.now.back) l.j ≡ count_now l.fn.lines key t + sum_below (given l.update.new.now key t) l.j;
  before : (key : SymbolKey) (t : ℕ) → count_before l.lines key t ≡ count_before l.fn.lines key t;
  adjustments : RisesBy (below (turns l.update.old.now l.update.new.now l.update.matching.now) l.j) (adjustments_in l.fn.meter) (adjustments_in l.meter);
  evaluations : evaluations_in l.meter ≡ evaluations_in l.fn.meter;
}
