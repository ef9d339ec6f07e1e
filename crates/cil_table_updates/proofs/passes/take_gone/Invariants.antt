use Rattle.cil_table_updates.proofs.Common.{◌≡◌, ◌+◌, ℕ, adjustments_in, evaluations_in, below, RisesBy, alone, sum_below, SymbolKey, count_now, goes, given}
use Rattle.cil_keyed_lines.specs.Keyed.{count_before}
use Rattle.cil_table_updates.proofs.passes.take_gone.Given as goal

-- the rules so far are taken out, but for those that stay
abbrev pub invariant-loop-i : goal.invariant-loop-i
invariant-loop-i g l = record {
  now : (key : SymbolKey) (t : ℕ) → count_now l.lines key t + sum_below (alone (given l.update.old.now key t) l.update.matching.now.ahead) l.i ≡ count_now l.fn.lines key t;
  before : (key : SymbolKey) (t : ℕ) → count_before l.lines key t ≡ count_before l.fn.lines key t;
  adjustments : RisesBy (below (goes l.update.old.now l.update.matching.now) l.i) (adjustments_in l.fn.meter) (adjustments_in l.meter);
  evaluations : evaluations_in l.meter ≡ evaluations_in l.fn.meter;
}
