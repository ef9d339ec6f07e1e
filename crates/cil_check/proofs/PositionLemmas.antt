-- The first place in a list at which a test passes.
use Rattle.cil_check.proofs.Common.{◌≡◌, ℕ, ◌+◌, zero, suc, Bool, true, false, ◌||◌, List, [], ◌∷◌, ◌++◌, length, take, cond, Option, Some, None, is_some, position, refl, sym, ap, ◌∙◌, add-one, find, list_any, slice_get, option_or, none-some, at_if, position-cons, position-append, take-next, take-length}
use Rattle.std.proofs.Common.{option_map}
pub use Rattle.cil_parse.proofs.LexiconLemmas.{get-append}
pub use Rattle.cil_bind.proofs.FromLemmas.{all-get as all-at}

-- tests that pass alike
pub position-same : {X : Type 0} (p q : X → Bool) → ((x : X) → p x ≡ q x) → (xs : List X) → position p xs ≡ position q xs
position-same p q same [] = refl
position-same p q same (x ∷ xs) =
    position-cons p x xs ∙ ap (λ b. cond b (Some 0) (option_map suc (position p xs))) (same x) ∙ ap (λ o. cond (q x) (Some 0) (option_map suc o)) (position-same p q same xs)
    ∙ sym (position-cons q x xs)

pub any-same : {X : Type 0} (p q : X → Bool) → ((x : X) → p x ≡ q x) → (xs : List X) → list_any p xs ≡ list_any q xs
any-same p q same [] = refl
any-same p q same (x ∷ xs) = ap (λ b. b || list_any p xs) (same x) ∙ ap (λ b. q x || b) (any-same p q same xs)

-- an element is found where there is a first
pub find-position : {X : Type 0} (p : X → Bool) (xs : List X) → is_some (find p xs) ≡ is_some (position p xs)
find-position p [] = refl
find-position p (x ∷ xs) = by (p x) (find-position p xs) ∙ ap is_some (sym (position-cons p x xs))
  where
    same : (o : Option ℕ) → is_some o ≡ is_some (option_map suc o)
    same None = refl
    same (Some m) = refl

    by : (b : Bool) → is_some (find p xs) ≡ is_some (position p xs) → is_some (cond b (Some x) (find p xs)) ≡ is_some (cond b (Some 0) (option_map suc (position p xs)))
    by true more = refl
    by false more = more ∙ same (position p xs)

-- the first of two lists is that of the former, or else that of the latter
pub first-append : {X : Type 0} (xs ys : List X) → slice_get (xs ++ ys) 0 ≡ option_or (slice_get xs 0) (slice_get ys 0)
first-append [] ys = refl
first-append (x ∷ xs) ys = refl

-- the last element
pub get-last : {X : Type 0} (xs : List X) (y : X) → slice_get (xs ++ y ∷ []) (length xs) ≡ Some y
get-last [] y = refl
get-last (x ∷ xs) y = get-last xs y

-- the first place at which a test passes, among one element more
pub position-next : {X : Type 0} (p : X → Bool) (xs : List X) (i : ℕ) (x : X) → slice_get xs i ≡ Some x → position p (take (i + 1) xs) ≡ option_or (position p (take i xs)) (at_if (p x) i)
position-next p xs i x is =
    ap (λ n. position p (take n xs)) (add-one i) ∙ ap (position p) (take-next xs i x is) ∙ position-append p (take i xs) x
    ∙ ap (λ n. option_or (position p (take i xs)) (at_if (p x) n)) (take-length xs i x is)

-- the first place among the first elements is that among all
pub position-more : {X : Type 0} (p : X → Bool) (xs : List X) (n i : ℕ) → position p (take n xs) ≡ Some i → position p xs ≡ Some i
position-more p [] zero i e = absurd (none-some i e)
position-more p [] (suc n) i e = e
position-more p (x ∷ xs) zero i e = absurd (none-some i e)
position-more p (x ∷ xs) (suc n) i e = position-cons p x xs ∙ by (p x) (position p (take n xs)) refl (position-more p xs n) (sym (position-cons p x (take n xs)) ∙ e)
  where
    by : (b : Bool) (o : Option ℕ) → position p (take n xs) ≡ o → ((m : ℕ) → position p (take n xs) ≡ Some m → position p xs ≡ Some m)
        → cond b (Some 0) (option_map suc (position p (take n xs))) ≡ Some i → cond b (Some 0) (option_map suc (position p xs)) ≡ Some i
    by true o is more e = e
    by false None is more e = absurd (none-some i (sym (ap (option_map suc) is) ∙ e))
    by false (Some m) is more e = ap (option_map suc) (more m is) ∙ sym (ap (option_map suc) is) ∙ e
