use Rattle.std.proofs.Common.{◌≡◌, ◌<◌, ℕ, slice_index}
use Rattle.cil_member_updates.proofs.kept.first_unlike.Given as goal

-- the words so far are the same
abbrev pub invariant-loop-word : goal.invariant-loop-word
invariant-loop-word g l = (w : ℕ) → w < l.word → slice_index l.one w ≡ slice_index l.other w
