-- An edit is a batch of one.
use Rattle.cil_store_specs.proofs.Common.{◌≡◌, ◌≤◌, [], ◌∷◌, false, Some, length, refl, arith, sum_by, le-ltb, sum_by-cons, Meaning, Store, Edit, install, remove, enable, disable, Refusal, held_bytes, is_too_long, IsMeaningOf, IsNotTaken, Judgement, accepts, refuses, Next, at_once, by_itself, store_refusal, one_not_taken, all_good, an_edit, refused, rejected, Step}
use Rattle.std.proofs.Math.Nat.{min-le_right}

held-most : (edit : Edit) → held_bytes edit ≤ 16777217
held-most (install name priority text) = min-le_right (length text) 16777217
held-most (remove name priority) = omega arith
held-most (enable name) = omega arith
held-most (disable name) = omega arith

-- it is never too long
pub one-short : (edit : Edit) → is_too_long (edit ∷ []) ≡ false
one-short edit = le-ltb 67108864 (sum_by held_bytes (edit ∷ [])) (omega (arith, sum_by-cons held_bytes edit [], held-most edit))

-- so it is judged by itself
not-taken : (store : Store) (edit : Edit) (judgement : Judgement) (refusal : Refusal) → IsNotTaken store edit refusal → judgement ≡ refuses refusal → Next store (edit ∷ []) judgement
not-taken store edit judgement refusal not is = at_once (one-short edit) (one_not_taken [] edit [] store refusal refl refl not is)

-- the step of an edit that the store refuses
pub store-refused-step : (store : Store) (edit : Edit) (refusal : Refusal) → store_refusal store edit ≡ Some refusal → Step store (an_edit edit) (refused refusal) store
store-refused-step store edit refusal is = rejected (edit ∷ []) refusal refl refl (not-taken store edit (refuses refusal) refusal (by_itself is) refl) refl

-- a batch of no edit is accepted, and changes nothing
pub none-accepted : (store : Store) (meaning : Meaning) → IsMeaningOf store meaning → Next store [] (accepts store)
none-accepted store meaning means = at_once refl (all_good store meaning refl means refl)
