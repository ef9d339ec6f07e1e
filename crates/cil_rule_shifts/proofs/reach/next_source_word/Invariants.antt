use Rattle.std.proofs.Common.{ℕ, ◌≡◌, ◌≤◌, ◌<◌, ◌-◌, ◌/◌, ◌^◌, false}
use Rattle.cil_rule_shifts.specs.Groups.{is_among}
use Rattle.cil_rule_shifts.proofs.reach.next_source_word.Given as goal

-- the words so far have none
abbrev pub invariant-loop-word : goal.invariant-loop-word
invariant-loop-word g l = (l.from ≤ l.at) × ((s : ℕ) → l.from ≤ s / 64 → s / 64 < l.at → is_among l.sources s ≡ false)

abbrev pub decreases-loop-word : goal.decreases-loop-word
decreases-loop-word g l = 2 ^ 64 - l.at
