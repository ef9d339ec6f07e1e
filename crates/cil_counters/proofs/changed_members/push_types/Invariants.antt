use Rattle.std.proofs.Common.{ℕ, ◌+◌, ◌≤◌}
use Rattle.cil_recorded.specs.Log.{hit_at}
use Rattle.cil_counters.specs.ChangedMembers.{pairs_of, AreNamed}
use Rattle.cil_counters.proofs.ChangedMemberLemmas.{hit_below}
use Rattle.cil_counters.proofs.changed_members.push_types.Given as goal

-- the types of so many bits are named
abbrev pub invariant-loop-bit : goal.invariant-loop-bit
invariant-loop-bit g l =
    (hits : ℕ → ℕ → ℕ) → ((r t : ℕ) → hits r t + hit_at l.row l.word l.mask r t ≤ 1)
    → AreNamed l.names hits (pairs_of l.fn.members.items)
    → AreNamed l.names (λ r t. hits r t + hit_below l.row l.word l.mask l.bit r t) (pairs_of l.members.items)
