use Rattle.cil_matching.proofs.Common.{◌≡◌, ◌+◌, ◌<◌, IsSameSet, sets_in}
use Rattle.cil_matching.specs.Paired.{AreSameUntil}
use Rattle.cil_matching.proofs.paired_sets.pairs_until.Given as goal

-- those up to here are the same
abbrev pub invariant-loop-k : goal.invariant-loop-k
invariant-loop-k g l = record {
  behind : l.i < l.k;
  across : l.to + (l.i + 1) ≡ l.k + (l.j + 1);
  same : AreSameUntil IsSameSet (sets_in l.old) (sets_in l.new) (l.i + 1) (l.j + 1) l.k;
}
