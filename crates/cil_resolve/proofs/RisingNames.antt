-- Names that rise, by their numbers.
use Rattle.cil_resolve.proofs.Common.{◌≡◌, ◌==◌, ℕ, ◌<◌, ◌⊎◌, inl, inr, true, true≢false, List, [], length, get_or, bytes_eq, IsTrue, sym, ap, ◌∙◌, eq-eqb, IsStrictlySortedBy, cases_order, eqb-true, tied_itself, bytes_eq-Decides, name_cmp, names_rise, same-bool}
use Rattle.std.proofs.Common.{Less, Equal, is_lt}
use Rattle.std.proofs.lemmas.Map.Keys.{Less-from_sorted}
use Rattle.cil_specs.proofs.ReportLemmas.{name_total, sorted_from_names_rise}

-- Where names rise, two numbers have the same name where they are the same.
pub same-name : (names : List (List ℕ)) (i j : ℕ) → IsTrue (names_rise names) → i < length names → j < length names → bytes_eq (get_or names i []) (get_or names j []) ≡ (i == j)
same-name names i j rise i_within j_within = same-bool (bytes_eq (get_or names i []) (get_or names j [])) (i == j) to from
  where
    ascending : IsStrictlySortedBy name_cmp names
    ascending = sorted_from_names_rise names rise

    apart : (k l : ℕ) → k < l → l < length names → get_or names k [] ≡ get_or names l [] → ⊥
    apart k l below within same =
        by (sym (Less-from_sorted name_cmp names k l [] ascending below within) ∙ ap (name_cmp (get_or names k [])) (sym same) ∙ tied_itself name_total (get_or names k []))
      where
        by : Less ≡ Equal → ⊥
        by e = true≢false (ap (λ o. is_lt o) e)

    to : bytes_eq (get_or names i []) (get_or names j []) ≡ true → (i == j) ≡ true
    to e = by (cases_order i j)
      where
        by : (i ≡ j) ⊎ ((i < j) ⊎ (j < i)) → (i == j) ≡ true
        by (inl same) = eq-eqb i j same
        by (inr (inl below)) = absurd (apart i j below j_within ((bytes_eq-Decides (get_or names i []) (get_or names j [])).0 e))
        by (inr (inr above)) = absurd (apart j i above i_within (sym ((bytes_eq-Decides (get_or names i []) (get_or names j [])).0 e)))

    from : (i == j) ≡ true → bytes_eq (get_or names i []) (get_or names j []) ≡ true
    from e = (bytes_eq-Decides (get_or names i []) (get_or names j [])).1 (ap (λ k. get_or names k []) (eqb-true i j e))

-- so names that are the same have one number
pub same-number : (names : List (List ℕ)) (i j : ℕ) → IsTrue (names_rise names) → i < length names → j < length names → get_or names i [] ≡ get_or names j [] → i ≡ j
same-number names i j rise low high same = eqb-true i j (sym (same-name names i j rise low high) ∙ (bytes_eq-Decides (get_or names i []) (get_or names j [])).1 same)
