-- Elements of a list by how many that pass a test stand in front of them.
use Rattle.cil_check.proofs.Common.{◌≡◌, inl, inr, ℕ, ◌+◌, ◌<◌, zero, suc, Bool, true, cond, List, [], ◌∷◌, take, Some, refl, ap, ◌∙◌, arith, count_by, none-some, same_Some, cases_order, sum_by-cons}
use Rattle.std.proofs.Common.{slice_get}

count-cons : {X : Type 0} (p : X → Bool) (x : X) (xs : List X) (b : Bool) → p x ≡ b → count_by p (x ∷ xs) ≡ cond b 1 0 + count_by p xs
count-cons p x xs b e = sum_by-cons (λ y. cond (p y) 1 0) x xs ∙ ap (λ c. cond c 1 0 + count_by p xs) e

-- more stand in front of what is behind one that passes
pub count-rises : {X : Type 0} (p : X → Bool) (xs : List X) (i k : ℕ) (x : X) → slice_get xs i ≡ Some x → p x ≡ true → i < k → count_by p (take i xs) < count_by p (take k xs)
count-rises p [] i k x at passes less = absurd (none-some x at)
count-rises p (y ∷ ys) zero zero x at passes less = absurd (omega (arith, less))
count-rises p (y ∷ ys) zero (suc k) x at passes less =
    let all = count-cons p y (take k ys) true (ap p (same_Some y x at) ∙ passes) in
    omega (arith, all)
count-rises p (y ∷ ys) (suc i) zero x at passes less = absurd (omega (arith, less))
count-rises p (y ∷ ys) (suc i) (suc k) x at passes less =
    let more = count-rises p ys i k x at passes (omega (arith, less)) in
    let front = count-cons p y (take i ys) (p y) refl in
    let all = count-cons p y (take k ys) (p y) refl in
    omega (arith, more, front, all)

-- no two that pass have as many in front
pub count-once : {X : Type 0} (p : X → Bool) (xs : List X) (i k : ℕ) (x y : X) → slice_get xs i ≡ Some x → p x ≡ true → slice_get xs k ≡ Some y → p y ≡ true
    → count_by p (take i xs) ≡ count_by p (take k xs) → i ≡ k
count-once p xs i k x y at passes there too same = elim (cases_order i k) [
  | inl is ↦ is
  | inr (inl less) ↦ (let rise = count-rises p xs i k x at passes less in absurd (omega (arith, rise, same)))
  | inr (inr less) ↦ (let rise = count-rises p xs k i y there too less in absurd (omega (arith, rise, same)))
]
