use Rattle.cil_member_updates.proofs.Common.{◌≡◌, ◌-◌, ◌<◌, ◌≤◌, ◌==◌, bit_at, adjustments_in, evaluations_in, up_to, RisesBy, held_by}
use Rattle.cil_member_updates.proofs.BitLemmas.{HeldBelow}
use Rattle.cil_member_updates.proofs.masks.masked.Given as goal

-- the bits so far
abbrev pub invariant-loop-b : goal.invariant-loop-b
invariant-loop-b g l =
    record {
      within : l.b ≤ 64;
      set : l.b < 64 → bit_at l.kept l.b ≡ 1;
      held : HeldBelow l.visits (held_by l.reading) l.word l.b l.mask;
      evaluations : RisesBy (up_to (λ k. bit_at l.kept k == 1) l.b) (evaluations_in l.fn.meter) (evaluations_in l.meter);
      adjustments : adjustments_in l.meter ≡ adjustments_in l.fn.meter;
    }

abbrev pub decreases-loop-b : goal.decreases-loop-b
decreases-loop-b g l = 64 - l.b
