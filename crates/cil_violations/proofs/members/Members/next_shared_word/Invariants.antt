use Rattle.std.proofs.Common.{◌≡◌, ◌≤◌, ◌<◌, ◌-◌, ◌^◌, ◌/◌, ℕ, false}
use Rattle.cil_violations.specs.Held.{both_hold}
use Rattle.cil_violations.proofs.members.Members.next_shared_word.Given as goal

abbrev pub invariant-loop-word : goal.invariant-loop-word
invariant-loop-word g l = record {
  from_on : l.fn.from ≤ l.from;
  before : (n : ℕ) → l.fn.from ≤ n / 64 → n / 64 < l.from → both_hold l.self l.first l.second n ≡ false;
}

abbrev pub decreases-loop-word : goal.decreases-loop-word
decreases-loop-word g l = 2 ^ 64 - l.from
