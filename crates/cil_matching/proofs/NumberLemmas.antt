-- The numbers of one policy's names in another one.
use Rattle.cil_matching.proofs.Common.{◌≡◌, ◌∙◌, ◌↔◌, ℕ, ◌<◌, List, length, slice_get, slice_index_or, [], Option, None, Some, sym, ap, subst, IsStrictlySortedBy, Equal, tied_itself, none-some, same_Some, slice_get-get_or, name_cmp, name_total, AreSameAt, IsFoundAt, IsMissedAt}
use Rattle.std.proofs.lemmas.Map.Lookups.{exact_bytes}
use Rattle.cil_matching.proofs.MergedLemmas.{found-place}

one-alike : (x y : List ℕ) → x ≡ y → name_cmp y x ≡ Equal
one-alike x y same = ap (name_cmp y) same ∙ tied_itself name_total y

module _ (old new : List (List ℕ)) (i : ℕ) where
  pub name-missed : (j : ℕ) → IsMissedAt name_cmp old new i j → (k : ℕ) → (◌≡◌ {A = Option ℕ} None (Some k)) ↔ AreSameAt (λ (x y : List ℕ). x ≡ y) old new i k
  name-missed j missed k = (
    λ is. absurd (none-some k is),
    λ same. absurd (missed.never k same.statement same.other same.here same.there (one-alike same.statement same.other same.same)),
  )

  pub name-found : (j : ℕ) → i < length old → IsStrictlySortedBy name_cmp new → IsFoundAt name_cmp old new i j → (k : ℕ) → (◌≡◌ {A = Option ℕ} (Some j) (Some k)) ↔ AreSameAt (λ (x y : List ℕ). x ≡ y) old new i k
  name-found j low sorted found k = (
    λ is. subst (AreSameAt (λ (x y : List ℕ). x ≡ y) old new i) (same_Some j k is) stands,
    λ same. ap Some (sym (found-place name_cmp name_total old new i j k same.statement same.other sorted found same.here same.there (one-alike same.statement same.other same.same))),
  )
    where
      stands : AreSameAt (λ (x y : List ℕ). x ≡ y) old new i j
      stands =
          let x = slice_index_or old i [] in
          let y = slice_index_or new j [] in
          let here : slice_get old i ≡ Some x = slice_get-get_or old i [] low in
          let there : slice_get new j ≡ Some y = slice_get-get_or new j [] found.within in
          record { statement = x; other = y; here = here; there = there; same = sym (exact_bytes y x (found.alike x y here there)) }
