-- Statements without faults of the kinds that are seen at one statement.
use Rattle.cil_check.proofs.Common.{◌≡◌, ℕ, ◌+◌, ◌<◌, ◌≤◌, List, [], length, get_or, take, Some, inl, inr, subst, arith, cases_lt, Placed, PolicyFaultKind, PolicyFault, twice, missing, wrong_kind, alias_twice, alias_unset, second_common, too_many_permissions, circular, code_of, IsFaultOf, faulty_words, policy_kind_of, HasNoneBelow, IsCleanAt, Twice}
use Rattle.std.proofs.Common.{slice_get}
use Rattle.cil_check.proofs.CheckLemmas.{checked}
use Rattle.cil_check.proofs.LeastLemmas.{NoneFaultyBelow, none-faulty-first, none-faulty-next, none-faulty-end}

-- so many of the kinds have no faulty word at a statement
abbrev pub IsCleanOf : ℕ → List Placed → ℕ → Placed → Type 0
IsCleanOf count policy place s = (n : ℕ) → n < count → faulty_words (policy_kind_of (get_or checked n Twice)) policy (take place policy) s ≡ []

pub clean-more : (policy : List Placed) (place : ℕ) (s : Placed) (count : ℕ) → faulty_words (policy_kind_of (get_or checked count Twice)) policy (take place policy) s ≡ [] → IsCleanOf count policy place s → IsCleanOf (count + 1) policy place s
clean-more policy place s count none clean n less = elim (cases_lt n count) [
  | inl lesser ↦ clean n lesser
  | inr no_less ↦ subst (λ k. faulty_words (policy_kind_of (get_or checked k Twice)) policy (take place policy) s ≡ []) (let same : count ≡ n = (omega (arith, less, no_less)) in same) none
]

-- all of them are the kinds of the codes 42 to 47
pub clean-at : (policy : List Placed) (place : ℕ) (s : Placed) (count : ℕ) → 6 ≤ count → IsCleanOf count policy place s → IsCleanAt policy place s
clean-at policy place s count all clean = record { none = by }
  where
    by : (kind : PolicyFaultKind) → 42 ≤ code_of kind → code_of kind < 48 → faulty_words kind policy (take place policy) s ≡ []
    by twice least less = absurd (omega (arith, least))
    by missing least less = clean 0 (omega (arith, all))
    by wrong_kind least less = clean 1 (omega (arith, all))
    by alias_twice least less = clean 2 (omega (arith, all))
    by alias_unset least less = clean 3 (omega (arith, all))
    by second_common least less = clean 4 (omega (arith, all))
    by too_many_permissions least less = clean 5 (omega (arith, all))
    by circular least less = absurd (omega (arith, less))

-- the statements in front of a place are clean
abbrev pub AreCleanBelow : List Placed → ℕ → Type 0
AreCleanBelow policy n = (kind : PolicyFaultKind) → 42 ≤ code_of kind → code_of kind < 48 → NoneFaultyBelow kind policy n

pub clean-first : (policy : List Placed) → AreCleanBelow policy 0
clean-first policy kind least less = none-faulty-first kind policy

pub clean-next : (policy : List Placed) (n : ℕ) (s : Placed) → slice_get policy n ≡ Some s → IsCleanAt policy n s → AreCleanBelow policy n → AreCleanBelow policy (n + 1)
clean-next policy n s at clean below kind least less = none-faulty-next kind policy n s at (clean.none kind least less) (below kind least less)

pub clean-end : (policy : List Placed) (n : ℕ) → length policy ≤ n → ((fault : PolicyFault) → IsFaultOf twice policy fault → ⊥) → AreCleanBelow policy n → HasNoneBelow 48 policy
clean-end policy n past once below fault is less = by fault.kind is less
  where
    none : (kind : PolicyFaultKind) → 42 ≤ code_of kind → code_of kind < 48 → IsFaultOf kind policy fault → ⊥
    none kind least less = none-faulty-end kind policy (λ j within s at. below kind least less j (omega (arith, within, past)) s at) fault

    by : (kind : PolicyFaultKind) → IsFaultOf kind policy fault → code_of kind < 48 → ⊥
    by twice is less = once fault is
    by missing is less = none missing (omega arith) less is
    by wrong_kind is less = none wrong_kind (omega arith) less is
    by alias_twice is less = none alias_twice (omega arith) less is
    by alias_unset is less = none alias_unset (omega arith) less is
    by second_common is less = none second_common (omega arith) less is
    by too_many_permissions is less = none too_many_permissions (omega arith) less is
    by circular is less = omega (arith, less)
