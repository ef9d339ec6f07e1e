-- The number of a name among names in the order of their bytes.
use Rattle.cil_resolve.proofs.Common.{◌≡◌, ℕ, zero, suc, ◌<◌, ◌≤◌, Bool, true, false, ◌||◌, nat_lt, List, [], ◌∷◌, map, length, get_or, slice_index_or, bytes_eq, arith, Option, Some, None, refl, sym, ap, ◌∙◌, subst, true≢false, prefix_len, list_all, list_any, slice_get, IsPartitionedBy, IsPartitionPoint, MatchOption, is_lt, Equal, and_parts, ltb-true, lt-ltb, nat_list_cmp_total, tied_itself, same_Some, slice_get_past, slice_get_read, bytes_eq-Decides, has_name, name_cmp, names_rise, is_name_below, declared_of}
use Rattle.std.proofs.lemmas.Map.Lookups.{exact_bytes}
use Rattle.cil_specs.proofs.ReportLemmas.{sorted_from_names_rise}
use Rattle.cil_resolve.specs.declared.numbered.NumberedName.{NumberedName}
use Rattle.cil_specs.proofs.SearchLemmas.{IsTiedAt, leaves, partitioned, prefix-of-point}

-- the place before which the lesser names stand
pub is-place : (names : List (List ℕ)) (name : List ℕ) (k : ℕ) → names_rise names ≡ true → k ≤ length names
    → (IsPartitionedBy (λ y. is_lt (name_cmp y name)) names → IsPartitionPoint (λ y. is_lt (name_cmp y name) ≡ true) (λ y. is_lt (name_cmp y name) ≡ false) names k)
    → k ≡ prefix_len (λ y. is_lt (name_cmp y name)) names
is-place names name k rise within point =
    sym (prefix-of-point (λ y. is_lt (name_cmp y name)) names k within (point (partitioned name_cmp nat_list_cmp_total name names (sorted_from_names_rise names rise))))

-- where another name stands there, or none, the name is not among them
pub not-there : (names : List (List ℕ)) (name : List ℕ) (k : ℕ) → names_rise names ≡ true → k ≡ prefix_len (λ y. is_lt (name_cmp y name)) names
    → (slice_get names k ≡ Some name → ⊥) → has_name names name ≡ false
not-there names name k rise at other =
    ((leaves name_cmp nat_list_cmp_total (bytes_eq name) name names (λ y e. ap (λ n. name_cmp y n) ((bytes_eq-Decides name y).0 e) ∙ tied_itself nat_list_cmp_total y)
    (λ y e. (bytes_eq-Decides name y).1 (sym (exact_bytes y name e))) (sorted_from_names_rise names rise)).absent
    (λ tied. other (here (slice_get names k) refl (subst (λ n. IsTiedAt name_cmp names n name) (sym at) tied)))).1
  where
    here : (o : Option (List ℕ)) → slice_get names k ≡ o → IsTiedAt name_cmp names k name → slice_get names k ≡ Some name
    here o is tied = by o is (subst (λ p. MatchOption p ⊥ (λ y. name_cmp y name ≡ Equal)) is tied)
      where
        by : (o : Option (List ℕ)) → slice_get names k ≡ o → MatchOption o ⊥ (λ y. name_cmp y name ≡ Equal) → slice_get names k ≡ Some name
        by None is h = absurd h
        by (Some y) is h = is ∙ ap Some (exact_bytes y name h)

-- a name that was read at a place is compared with another
pub is-at : {read names : List (List ℕ)} {i : ℕ} {here other name : List ℕ} {same : Bool} → read ≡ names → i < length read → here ≡ get_or read i here → other ≡ here → same ≡ bytes_eq other name
    → (same ≡ true → slice_get names i ≡ Some name) × (slice_get names i ≡ Some name → same ≡ true)
is-at {read = read} {names = names} {i = i} {here = here} {other = other} {name = name} {same = same} as_read within get is equal =
    let there : slice_get names i ≡ Some here = subst (λ l. slice_get l i ≡ Some here) as_read (slice_get_read read (length read) i here refl within get) in
    let decides = bytes_eq-Decides other name in (
      λ yes. there ∙ ap Some (sym is ∙ decides.0 (sym equal ∙ yes)),
      λ at. equal ∙ decides.1 (is ∙ same_Some here name (sym there ∙ at)),
    )

-- past the end stands no name
pub past-end : {read names : List (List ℕ)} {i : ℕ} {name : List ℕ} → read ≡ names → length read ≤ i → (false ≡ true → slice_get names i ≡ Some name) × (slice_get names i ≡ Some name → false ≡ true)
past-end {read = read} {names = names} {i = i} {name = name} as_read past =
    let none : slice_get names i ≡ None = subst (λ l. slice_get l i ≡ None) as_read (slice_get_past read i past) in
    (λ no. absurd (true≢false (sym no)), λ at. absurd (none-some (sym none ∙ at)))
  where
    none-some : None ≡ Some name → ⊥
    none-some e = cc

-- What stands at the number of a name is among the names.
at-number : (names : List (List ℕ)) (i : ℕ) (name : List ℕ) → nat_lt i (length names) ≡ true → bytes_eq name (slice_index_or names i []) ≡ true → has_name names name ≡ true
at-number [] i name within is = absurd (omega (arith, ltb-true i 0 within))
at-number (n ∷ names) zero name within is = ap (λ b. b || has_name names name) is
at-number (n ∷ names) (suc i) name within is = ap (λ b. bytes_eq name n || b) (at-number names i name (lt-ltb i (length names) (omega (arith, ltb-true (suc i) (suc (length names)) within))) is) ∙ or-true (bytes_eq name n)
  where
    or-true : (b : Bool) → (b || true) ≡ true
    or-true true = refl
    or-true false = refl

-- declarations whose numbers are those of names have names that are among them
pub declared-there : (modules names : List (List ℕ)) (ds : List NumberedName) (name : List ℕ) → list_all (is_name_below (length names)) ds ≡ true → list_any (λ d. bytes_eq name d.name) (map (declared_of modules names) ds) ≡ true → has_name names name ≡ true
declared-there modules names [] name within is = absurd (true≢false (sym is))
declared-there modules names (d ∷ ds) name within is =
    let both = and_parts (is_name_below (length names) d) (list_all (is_name_below (length names)) ds) within in
    by both.0 (declared-there modules names ds name both.1) (bytes_eq name (slice_index_or names d.name [])) refl
  where
    by : nat_lt d.name (length names) ≡ true → (list_any (λ e. bytes_eq name e.name) (map (declared_of modules names) ds) ≡ true → has_name names name ≡ true) → (b : Bool) → bytes_eq name (slice_index_or names d.name []) ≡ b
        → has_name names name ≡ true
    by below rest true here = at-number names d.name name below here
    by below rest false other = rest (ap (λ b. b || list_any (λ e. bytes_eq name e.name) (map (declared_of modules names) ds)) (sym other) ∙ is)
