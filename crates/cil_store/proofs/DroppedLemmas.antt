-- Optionals that are copied one after the other.
use Rattle.cil_store.proofs.Common.{◌≡◌, ℕ, zero, suc, ◌+◌, ◌≤◌, List, [], ◌∷◌, ◌++◌, length, take, Some, None, sym, ◌∙◌, arith, slice_get, take_all, take_more, slice_get_within, get_or_from_slice_get, Declared}

-- the next one behind those before it
pub taken-next : (xs some more : List Declared) (i : ℕ) (x copy : Declared) → some ≡ take i xs → Some x ≡ slice_get xs i → copy ≡ x → more ≡ some ++ copy ∷ [] → more ≡ take (i + 1) xs
taken-next xs some more i x copy so_far is same pushed =
    let next : copy ≡ _ = same ∙ sym (get_or_from_slice_get xs i x x (sym is)) in
    pushed ∙ (λ j. so_far j ++ next j ∷ []) ∙ sym (take_more xs i x (slice_get_within xs i x (sym is)))

-- there is a place behind it
pub next-within : (xs : List Declared) (i : ℕ) (x : Declared) → Some x ≡ slice_get xs i → i + 1 ≤ length xs
next-within xs i x is = omega (arith, slice_get_within xs i x (sym is))

-- where there is none the list is past its end
pub past-end : (xs : List Declared) (i : ℕ) → None ≡ slice_get xs i → length xs ≤ i
past-end [] i none = omega arith
past-end (x ∷ xs) zero none = absurd cc
past-end (x ∷ xs) (suc i) none = omega (arith, past-end xs i none)

-- all of them, where there is no next one
pub taken-all : (xs some : List Declared) (i : ℕ) → some ≡ take i xs → None ≡ slice_get xs i → some ≡ xs
taken-all xs some i so_far none = so_far ∙ take_all i xs (past-end xs i none)
