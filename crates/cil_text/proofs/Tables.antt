-- Looking a word up in a table.
use Rattle.cil_text.proofs.Common.{◌≡◌, ℕ, Bool, true, false, cond, ◌||◌, List, [], ◌∷◌, map, Bor, refl, ap, ◌∙◌, Option, Some, None, option_map, MatchOption, bytes_eq, find, list_all, list_any, and_parts}
use Rattle.std.proofs.lemmas.Slice.Eq.{bytes_eq-Decides}

-- a word and what it stands for
abbrev pub Row : Type 0 → Type 0
Row K = Bor (List ℕ) × K

module _ {K : Type 0} (spelling : K → List ℕ) where
  -- each row's word spells its value
  abbrev pub are_spelt_so : List (Row K) → Bool
  are_spelt_so rows = list_all (λ row. bytes_eq row.0.now (spelling row.1)) rows

  -- what the search for a word gives
  abbrev pub Finds : List ℕ → List (Row K) → Option (Row K) → Type 0
  Finds text rows found = MatchOption (option_map (λ row. row.1) found) (list_any (bytes_eq text) (map (λ row. row.0.now) rows) ≡ false) (λ k. text ≡ spelling k)

  finds-next : (text : List ℕ) (row : Row K) (rows : List (Row K)) (found : Option (Row K)) → bytes_eq row.0.now (spelling row.1) ≡ true → Finds text rows found
      → (same : Bool) → bytes_eq text row.0.now ≡ same → Finds text (row ∷ rows) (cond same (Some row) found)
  finds-next text row rows found spelt rest true h = (bytes_eq-Decides text row.0.now).0 h ∙ (bytes_eq-Decides row.0.now (spelling row.1)).0 spelt
  finds-next text row rows (Some other) spelt rest false h = rest
  finds-next text row rows None spelt rest false h = ap (λ b. b || list_any (bytes_eq text) (map (λ row. row.0.now) rows)) h ∙ rest

  finds : (text : List ℕ) (rows : List (Row K)) → are_spelt_so rows ≡ true → Finds text rows (find (λ row. bytes_eq text row.0.now) rows)
  finds text [] spelt = refl
  finds text (row ∷ rows) spelt =
      let parts = and_parts (bytes_eq row.0.now (spelling row.1)) (are_spelt_so rows) spelt in
      finds-next text row rows (find (λ row. bytes_eq text row.0.now) rows) parts.0 (finds text rows parts.1) (bytes_eq text row.0.now) refl
