use Rattle.cil_matching.proofs.Common.{◌≡◌, ◌+◌, IsSameRule, meaning_in}
use Rattle.cil_matching.specs.Paired.{AreSameUntil}
use Rattle.cil_matching.proofs.paired_rules.pairs_until.Given as goal

-- those up to here are the same
abbrev pub invariant-loop-k : goal.invariant-loop-k
invariant-loop-k g l = record {
  across : l.to + (l.i + 1) ≡ l.k + (l.j + 1);
  same : AreSameUntil IsSameRule (meaning_in l.old).rules (meaning_in l.new).rules (l.i + 1) (l.j + 1) l.k;
}
