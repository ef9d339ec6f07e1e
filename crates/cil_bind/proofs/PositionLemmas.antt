-- The first place in a list at which a test passes.
use Rattle.cil_bind.proofs.Common.{◌≡◌, ℕ, ◌+◌, zero, suc, Bool, true, false, ◌||◌, nat_lt, List, [], ◌∷◌, ◌++◌, length, take, drop, cond, Option, Some, None, is_some, position, refl, sym, ap, ◌∙◌, add-one, arith, list_any, slice_get, option_or, none-some, same_Some, list_any-append, lt-ltb, le-ltb}
use Rattle.std.proofs.Common.{option_map}
use Rattle.std.proofs.Math.Bool.{or-false}
pub use Rattle.cil_names.proofs.TextLemmas.{less-suc, position-cons}

-- the place at which a test passes, if a condition holds
abbrev pub at_if : Bool → ℕ → Option ℕ
at_if b n = cond b (Some n) None

pub position-append : {X : Type 0} (p : X → Bool) (xs : List X) (y : X) → position p (xs ++ y ∷ []) ≡ option_or (position p xs) (at_if (p y) (length xs))
position-append p [] y = position-cons p y []
position-append p (x ∷ xs) y = position-cons p x (xs ++ y ∷ []) ∙ by (p x) (position-append p xs y) ∙ ap (λ o. option_or o (at_if (p y) (suc (length xs)))) (sym (position-cons p x xs))
  where
    shifted : (o : Option ℕ) (b : Bool) → option_map suc (option_or o (at_if b (length xs))) ≡ option_or (option_map suc o) (at_if b (suc (length xs)))
    shifted (Some n) b = refl
    shifted None true = refl
    shifted None false = refl

    by : (b : Bool) → position p (xs ++ y ∷ []) ≡ option_or (position p xs) (at_if (p y) (length xs))
        → cond b (Some 0) (option_map suc (position p (xs ++ y ∷ []))) ≡ option_or (cond b (Some 0) (option_map suc (position p xs))) (at_if (p y) (suc (length xs)))
    by true more = refl
    by false more = ap (option_map suc) more ∙ shifted (position p xs) (p y)

-- whether a place is there and in front of this one
abbrev pub is_before : Option ℕ → ℕ → Bool
is_before None n = false
is_before (Some m) n = nat_lt m n

-- an element in front of a place passes if the first that passes stands there
pub any-before : {X : Type 0} (p : X → Bool) (n : ℕ) (xs : List X) → list_any p (take n xs) ≡ is_before (position p xs) n
any-before p zero xs = sym (none (position p xs))
  where
    none : (o : Option ℕ) → is_before o 0 ≡ false
    none None = refl
    none (Some m) = le-ltb m 0 (omega arith)
any-before p (suc n) [] = refl
any-before p (suc n) (x ∷ xs) = by (p x) (any-before p n xs) ∙ ap (λ o. is_before o (suc n)) (sym (position-cons p x xs))
  where
    shifted : (o : Option ℕ) → is_before o n ≡ is_before (option_map suc o) (suc n)
    shifted None = refl
    shifted (Some m) = sym (less-suc m n)

    by : (b : Bool) → list_any p (take n xs) ≡ is_before (position p xs) n → (b || list_any p (take n xs)) ≡ is_before (cond b (Some 0) (option_map suc (position p xs))) (suc n)
    by true e = sym (lt-ltb 0 (suc n) (omega arith))
    by false e = e ∙ shifted (position p xs)

-- one more element is taken
pub take-next : {X : Type 0} (xs : List X) (i : ℕ) (x : X) → slice_get xs i ≡ Some x → take (suc i) xs ≡ take i xs ++ x ∷ []
take-next [] i x is = absurd (none-some x is)
take-next (y ∷ xs) zero x is = ap (λ z. z ∷ []) (same_Some y x is)
take-next (y ∷ xs) (suc i) x is = ap (λ l. y ∷ l) (take-next xs i x is)

pub take-length : {X : Type 0} (xs : List X) (i : ℕ) (x : X) → slice_get xs i ≡ Some x → length (take i xs) ≡ i
take-length [] i x is = absurd (none-some x is)
take-length (y ∷ xs) zero x is = refl
take-length (y ∷ xs) (suc i) x is = ap suc (take-length xs i x is)

pub take-last : {X : Type 0} (xs : List X) (i : ℕ) (x : X) → slice_get xs i ≡ Some x → take (i + 1) xs ≡ take i xs ++ x ∷ []
take-last xs i x at = ap (λ k. take k xs) (add-one i) ∙ take-next xs i x at

pub any-last : {X : Type 0} (p : X → Bool) (xs : List X) (x : X) → list_any p (xs ++ x ∷ []) ≡ (list_any p xs || p x)
any-last p xs x = list_any-append p xs (x ∷ []) ∙ ap (λ b. list_any p xs || b) (or-false (p x))

-- an element passes where there is a first
pub any-position : {X : Type 0} (p : X → Bool) (xs : List X) → list_any p xs ≡ is_some (position p xs)
any-position p [] = refl
any-position p (x ∷ xs) = by (p x) (any-position p xs) ∙ ap is_some (sym (position-cons p x xs))
  where
    same : (o : Option ℕ) → is_some o ≡ is_some (option_map suc o)
    same None = refl
    same (Some m) = refl

    by : (b : Bool) → list_any p xs ≡ is_some (position p xs) → (b || list_any p xs) ≡ is_some (cond b (Some 0) (option_map suc (position p xs)))
    by true more = refl
    by false more = more ∙ same (position p xs)

pub around-at : {X : Type 0} (xs : List X) (i : ℕ) (x : X) → slice_get xs i ≡ Some x → xs ≡ take i xs ++ x ∷ drop (i + 1) xs
around-at {X = X} xs i x at =
    let same : suc i ≡ i + 1 = omega arith in
    around-next xs i at ∙ ap (λ k. take i xs ++ x ∷ drop k xs) same
  where
    around-next : (ys : List X) (k : ℕ) → slice_get ys k ≡ Some x → ys ≡ take k ys ++ x ∷ drop (suc k) ys
    around-next [] k e = absurd (none-some x e)
    around-next (y ∷ ys) zero e = ap (λ z. z ∷ ys) (same_Some y x e)
    around-next (y ∷ ys) (suc k) e = ap (λ l. y ∷ l) (around-next ys k e)
