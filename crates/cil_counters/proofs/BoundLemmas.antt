-- Counters of accesses that are no more than the rules of two policies, by symbols and by full names.
use Rattle.cil_counters.proofs.Common.{◌≡◌, ℕ, ◌+◌, ◌<◌, ◌≤◌, List, [], length, cond, bytes_eq, Option, None, Some, position, refl, ap, ◌∙◌, arith, get_or_from_slice_get, slice_get_within, Meaning, count_of, RuleKind, SymbolKey, found-name, atom_of, name_at, count_named, atom_with, count_at}
use Rattle.cil_counters.proofs.ToldLemmas.{all-named}

module _ (names : List (List ℕ)) where
  named-at : (name : List ℕ) (i : ℕ) → position (bytes_eq name) names ≡ Some i → name_at names i ≡ name
  named-at name i at = get_or_from_slice_get names i name [] (found-name names name i at)

  named-within : (name : List ℕ) (i : ℕ) → position (bytes_eq name) names ≡ Some i → i < length names
  named-within name i at = slice_get_within names i name (found-name names name i at)

  -- how many rules give the access of symbols is how many give that of their names
  count-by-names : (meaning : Meaning) (kind : RuleKind) (source target class permission : List ℕ) (i j k l : ℕ) → position (bytes_eq source) names ≡ Some i → position (bytes_eq target) names ≡ Some j → position (bytes_eq class) names ≡ Some k
      → position (bytes_eq permission) names ≡ Some l → count_named names meaning (record { kind = kind; source = i; class = k; permission = l }) j ≡ count_of meaning (atom_with kind source target class permission)
  count-by-names meaning kind source target class permission i j k l at_source at_target at_class at_permission =
      ap (λ b. cond b (count_of meaning (atom_of names (record { kind = kind; source = i; class = k; permission = l }) j)) 0)
      (all-named names (record { kind = kind; source = i; class = k; permission = l }) j (named-within source i at_source) (named-within target j at_target) (named-within class k at_class) (named-within permission l at_permission))
      ∙ ap (λ name. count_of meaning (atom_with kind name (name_at names j) (name_at names k) (name_at names l))) (named-at source i at_source)
      ∙ ap (λ name. count_of meaning (atom_with kind source name (name_at names k) (name_at names l))) (named-at target j at_target)
      ∙ ap (λ name. count_of meaning (atom_with kind source target name (name_at names l))) (named-at class k at_class)
      ∙ ap (λ name. count_of meaning (atom_with kind source target class name)) (named-at permission l at_permission)

  module _ (one other : Meaning) (counts : SymbolKey → ℕ → ℕ)
      (bounded : (key : SymbolKey) (t : ℕ) → counts key t ≤ count_named names one key t + count_named names other key t) (kind : RuleKind) (source target class permission : List ℕ) where
    abbrev rules : ℕ
    rules = count_of one (atom_with kind source target class permission) + count_of other (atom_with kind source target class permission)

    by : (p q s t : Option ℕ) → position (bytes_eq source) names ≡ p → position (bytes_eq target) names ≡ q → position (bytes_eq class) names ≡ s → position (bytes_eq permission) names ≡ t → count_at counts kind p q s t ≤ rules
    by None q s t at_source at_target at_class at_permission = omega arith
    by (Some i) None s t at_source at_target at_class at_permission = omega arith
    by (Some i) (Some j) None t at_source at_target at_class at_permission = omega arith
    by (Some i) (Some j) (Some k) None at_source at_target at_class at_permission = omega arith
    by (Some i) (Some j) (Some k) (Some l) at_source at_target at_class at_permission =
        let here = count-by-names one kind source target class permission i j k l at_source at_target at_class at_permission in
        let there = count-by-names other kind source target class permission i j k l at_source at_target at_class at_permission in
        omega (arith, bounded (record { kind = kind; source = i; class = k; permission = l }) j, here, there)

    pub bounded-by-names : count_at counts kind (position (bytes_eq source) names) (position (bytes_eq target) names) (position (bytes_eq class) names) (position (bytes_eq permission) names) ≤ rules
    bounded-by-names = by (position (bytes_eq source) names) (position (bytes_eq target) names) (position (bytes_eq class) names) (position (bytes_eq permission) names) refl refl refl refl
