-- Lists with an element set.
use Rattle.std.proofs.Common.{◌≡◌, ℕ, zero, suc, List, [], ◌∷◌, set, slice_get, Some, refl, ap}

pub get-set_same : {X : Type 0} (xs : List X) (m : ℕ) (x y : X) → slice_get xs m ≡ Some x → slice_get (set xs m y) m ≡ Some y
get-set_same [] m x y is = absurd (cc is)
get-set_same (z ∷ xs) zero x y is = refl
get-set_same (z ∷ xs) (suc m) x y is = get-set_same xs m x y is

pub get-set_other : {X : Type 0} (xs : List X) (m n : ℕ) (y : X) → (n ≡ m → ⊥) → slice_get (set xs m y) n ≡ slice_get xs n
get-set_other [] m n y other = refl
get-set_other (z ∷ xs) zero zero y other = absurd (other refl)
get-set_other (z ∷ xs) zero (suc n) y other = refl
get-set_other (z ∷ xs) (suc m) zero y other = refl
get-set_other (z ∷ xs) (suc m) (suc n) y other = get-set_other xs m n y (λ e. other (ap suc e))
