use Rattle.std.proofs.Common.{Bool, ℕ, ◌<◌, ◌≤◌, ◌^◌, [], ◌∷◌, arith, false, if◌then◌else◌, refl, suc, true, zero}
use Rattle.std.specs.List.{IsDistinct}
use Rattle.cil_lines.proofs.StepLemmas.{hit-none}
use Rattle.cil_keyed_lines.specs.Keyed.{count_now, has_key}
unfoldable use Rattle.cil_keyed_lines.specs.Keyed.{of_keys}
use Rattle.cil_keyed_lines.specs.Moves.{move_at, went}
use Rattle.cil_keyed_lines.specs.declared.moved.Moved.{Moved}
use Rattle.cil_part_tests.proofs.lines.keyed_list_fills.Goals as goal

abbrev moved : Moved
moved = record { word = 2; gone = 0; come = 1 }

short : (i : ℕ) → i < 1 → (move_at (moved ∷ []) i).word < 2 ^ 58
short zero less = omega arith
short (suc i) less = absurd (omega (arith, less))

pub add-requires-clause-keys : goal.add-requires-clause-keys
unfolding IsDistinct
add-requires-clause-keys c = (tt, tt)

pub add-requires-clause-moved : goal.add-requires-clause-moved
add-requires-clause-moved c = record { short = short; rising = λ i j less within. absurd (omega (arith, less, within)) }

pub add-requires-clause-above : goal.add-requires-clause-above
unfolding of_keys
add-requires-clause-above c k t = by (has_key (c.key.result ∷ []) k) (count_now c.new-lines.result k t)
  where
    by : (b : Bool) (n : ℕ) → (if b then went (moved ∷ []) t else 0) ≤ n
    by true n = omega (arith, hit-none 2 t)
    by false n = omega arith
