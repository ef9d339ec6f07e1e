-- Items at places, and answers of places.
use Rattle.cil_table_updates.proofs.Common.{◌≡◌, ◌↔◌, ℕ, ◌<◌, Bool, true, List, length, get_or, slice_get, Option, None, Some, [], bytes_eq, inl, inr, refl, sym, ap, ◌∙◌, list_all, IsDistinct, cases_Bool, get_or_from_slice_get, slice_get_read, slice_get_within, AreApart}
use Rattle.std.proofs.lemmas.List.Folds.{list_all_at}
use Rattle.cil_bind.proofs.NamespaceLemmas.{distinct-place}

-- what holds of all items holds of that at a place
pub passes-at : {X : Type 0} (p : X → Bool) (xs : List X) (i : ℕ) (x : X) → list_all p xs ≡ true → slice_get xs i ≡ Some x → p x ≡ true
passes-at p xs i x all is =
    elim (cases_Bool (p x)) [
      | inl passes ↦ passes
      | inr fails ↦ fails ∙ sym (list_all_at p xs i x (slice_get_within xs i x is) (ap p (get_or_from_slice_get xs i x x is) ∙ fails)) ∙ all
    ]

-- an item that was read stands at its place
pub read-at : {X : Type 0} (read xs : List X) (i : ℕ) (x : X) → read ≡ xs → i < length xs → x ≡ get_or read i x → slice_get xs i ≡ Some x
read-at read xs i x same within is = slice_get_read xs (length xs) i x refl within (is ∙ ap (λ l. get_or l i x) same)

-- where one does
pub read-there : {X : Type 0} (read xs : List X) (i : ℕ) (x y : X) → read ≡ xs → slice_get xs i ≡ Some y → x ≡ get_or read i x → slice_get xs i ≡ Some x
read-there read xs i x y same there is = read-at read xs i x same (slice_get_within xs i y there) is

-- an answer of none, where each is told exactly
pub never : (P : ℕ → Type 0) (result : Option ℕ) → ((j : ℕ) → (result ≡ Some j) ↔ P j) → result ≡ None → (j : ℕ) → P j → ⊥
never P result tells none j holds = by (sym none ∙ (tells j).1 holds)
  where
    by : None ≡ Some j → ⊥
    by e = cc

-- distinct names are apart
pub names-apart : (names : List (List ℕ)) → IsDistinct bytes_eq names → AreApart names
names-apart names distinct i j name here there =
    distinct-place names i j distinct (slice_get_within names i name here) (slice_get_within names j name there) (get_or_from_slice_get names i name [] here ∙ sym (get_or_from_slice_get names j name [] there))
