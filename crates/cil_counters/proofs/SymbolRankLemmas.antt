-- The numbers of names by their symbols.
use Rattle.cil_counters.proofs.Common.{◌≡◌, ℕ, ◌+◌, ◌<◌, List, [], length, set, get_or, bytes_eq, position, slice_get, slice_index, None, Some, is_some, sym, ap, ◌∙◌, inl, inr, arith, true≢false, cases_lt, length-set, get_or-set_same, get_or-set_other, list_any_at, get_or_from_slice_get, same_Some, slice_get_within, slice_get-get_or, bytes_eq-Decides, any-position, AreNumbersOf, symbol-name, symbol-some, AreApart, ArePut, AreRanks}
use Rattle.cil_symbols.specs.Numbered as numbered

-- a name without a symbol stands nowhere
pub stands-nowhere : (symbols : List (List ℕ)) (s : ℕ) (name : List ℕ) → position (bytes_eq name) symbols ≡ None → slice_get symbols s ≡ Some name → ⊥
stands-nowhere symbols s name missing at = true≢false
    (sym (list_any_at (bytes_eq name) symbols s [] (slice_get_within symbols s name at) ((bytes_eq-Decides name (get_or symbols s [])).1 (sym (get_or_from_slice_get symbols s name [] at))))
    ∙ any-position (bytes_eq name) symbols ∙ ap is_some missing)

module _ (symbols : List ℕ) (first : ℕ) (old numbers : List ℕ) (so_far : ArePut symbols first old numbers) where
  -- the next number has no symbol that is counted
  pub put-past : ((s : ℕ) → slice_get symbols first ≡ Some s → s < length old → ⊥) → ArePut symbols (first + 1) old numbers
  put-past none = record {
    len = so_far.len;
    put = λ k s at low within. elim (cases_lt k first) [
      | inl before ↦ so_far.put k s at before within
      | inr behind ↦ absurd (none s (ap (slice_get symbols) (let same : first ≡ k = omega (arith, low, behind) in same) ∙ at) within)
    ];
  }

  -- and where it has one
  pub put-next : numbered.AreApart symbols → (t n : ℕ) → slice_get symbols first ≡ Some t → n ≡ first → t < length numbers → ArePut symbols (first + 1) old (set numbers t n)
  put-next apart t n here is_next within = record { len = length-set numbers t n ∙ so_far.len; put = put }
    where
      put : (k s : ℕ) → slice_get symbols k ≡ Some s → k < first + 1 → s < length old → slice_index (set numbers t n) s ≡ k
      put k s at low inside = elim (cases_lt k first) [
        | inl before ↦
            get_or-set_other numbers t s n 0
            (λ same. let is : k ≡ first = apart k first s at (here ∙ ap Some (sym same)) in absurd (omega (arith, is, before)))
            ∙ so_far.put k s at before inside
        | inr behind ↦
            let last : first ≡ k = omega (arith, low, behind) in
            let same : s ≡ t = same_Some s t (sym at ∙ ap (slice_get symbols) (sym last) ∙ here) in
            ap (slice_index (set numbers t n)) same ∙ get_or-set_same numbers t n 0 within ∙ is_next ∙ last
      ]

-- The numbers of all names at their symbols.
pub ranks-put : (symbols names : List (List ℕ)) (numbering old numbers : List ℕ) → AreNumbersOf symbols numbering names → AreApart symbols → length old ≡ length symbols
    → (count : ℕ) → count ≡ length names → ArePut numbering count old numbers → AreRanks symbols names numbers
ranks-put symbols names numbering old numbers are apart long count all put = record { long = put.len ∙ long; places = at-name }
  where
    at-name : (k s : ℕ) (name : List ℕ) → slice_get names k ≡ Some name → slice_get symbols s ≡ Some name → slice_index numbers s ≡ k
    at-name k s name here there =
        let low : k < length names = slice_get_within names k name here in
        let is : ℕ = get_or numbering k 0 in
        let has = symbol-some symbols numbering names are k low in
        let same : is ≡ s = apart is s name (symbol-name symbols numbering names are k is has ∙ sym (slice_get-get_or names k [] low) ∙ here) there in
        let within = slice_get_within symbols s name there in
        put.put k s (has ∙ ap Some same) (omega (arith, low, all)) (omega (arith, within, long))
