-- Statements of permission sets, by numbers.
use Rattle.cil_resolve.proofs.Common.{◌≡◌, ◌∙◌, ℕ, true, false, ◌&&◌, nat_lt, List, [], ◌∷◌, ◌++◌, length, get_or, Contains, Some, inl, inr, arith, refl, subst, true≢false, list_all, lt-ltb, flat_map, Word, WordExpr, Placed, Form, class_permission_set, kind_of, permission_sets, leads, name_or_none, class_name, both_true, first_true, contains-cases, contains-first, Contains-push_cases, place_of, number_in, is_permission_set_below, meaning_of, permission_set_of, ArePermissions, ArePermissionSets, GivesSet, permission_set_if}
use Rattle.cil_specs.specs.Meaning.{class_permits}
use Rattle.cil_specs.specs.Rule as spec
use Rattle.cil_resolve.specs.declared.numbered.NumberedPermissionSet.{NumberedPermissionSet}
use Rattle.cil_resolve.proofs.FormLemmas.{is_set_statement}
use Rattle.cil_resolve.proofs.NumberLemmas.{number-is}
use Rattle.cil_resolve.proofs.PartLemmas.{below-more, grow, stay}

-- a statement, by its parts
pub set-made : {A : Type 0} (modules names : List (List ℕ)) (policy : List Placed) (s : Placed) (x : NumberedPermissionSet A) (set the_class : Word) (permissions : WordExpr)
    → get_or modules x.«module» [] ≡ s.module_name → place_of x.at ≡ s.at
    → number_in names (name_or_none permission_sets (leads policy permission_sets s.namespace set.text)) ≡ Some x.set
    → ArePermissions names policy (class_name policy s.namespace the_class) permissions x.permissions
    → ArePermissionSets modules names policy (x ∷ []) (spec.permission_set_of policy s (class_permission_set set the_class permissions))
set-made modules names policy s x set the_class permissions m a numbered are =
    let n = length names in
    let (low, named) = number-is names (name_or_none permission_sets (leads policy permission_sets s.namespace set.text)) x.set numbered in
    let (class_low, class_named) = number-is names (class_name policy s.namespace the_class) x.permissions.class are.of_class in
    record {
      is = λ j. record { module_name = m j; at = a j; set = named j; the_class = class_named j; permissions = are.spelt.named j } ∷ [];
      below =
          both_true (is_permission_set_below n x) true
          (both_true (nat_lt x.set n) (nat_lt x.permissions.class n && list_all (λ q. nat_lt q n) x.permissions.given) (lt-ltb x.set n low)
          (both_true (nat_lt x.permissions.class n) (list_all (λ q. nat_lt q n) x.permissions.given) (lt-ltb x.permissions.class n class_low) are.below)) refl;
      give = λ y there. elim (contains-cases x [] y there) [
        | inl same ↦ subst (GivesSet names policy) same (λ c q. (λ i. class_permits (meaning_of policy []) (class_named i) (are.spelt.named i) c q) ∙ are.gives c q)
        | inr none ↦ absurd (omega (arith, none.1))
      ];
    }

-- the statements of permission sets among some, with one more
pub sets-grow : {A : Type 0} (modules names : List (List ℕ)) (policy : List Placed) (old new : List (NumberedPermissionSet A)) (x : NumberedPermissionSet A) (statements : List Placed) (s : Placed)
    → ArePermissionSets modules names policy old (flat_map (permission_set_if policy) statements) → new ≡ old ++ x ∷ [] → ArePermissionSets modules names policy (x ∷ []) (permission_set_if policy s)
    → ArePermissionSets modules names policy new (flat_map (permission_set_if policy) (statements ++ s ∷ []))
sets-grow modules names policy old new x statements s so_far pushed one = record {
  is = grow (permission_set_of modules names) (permission_set_if policy) old new (x ∷ []) statements s so_far.is pushed one.is;
  below = below-more (is_permission_set_below (length names)) old new x so_far.below pushed (first_true (is_permission_set_below (length names) x) true one.below);
  give = λ y there. elim (Contains-push_cases old x y (subst (λ l. Contains l y) pushed there)) [
    | inl before ↦ so_far.give y before
    | inr same ↦ subst (GivesSet names policy) same (one.give x (contains-first x []))
  ];
}

pub no-set : (policy : List Placed) (s : Placed) (form : Form) → is_set_statement (kind_of form) ≡ false → spec.permission_set_of policy s form ≡ []
no-set policy s (class_permission_set set the_class permissions) e = absurd (true≢false e)
no-set policy s _ e = refl

-- with none more
pub sets-stay : {A : Type 0} (modules names : List (List ℕ)) (policy : List Placed) (sets : List (NumberedPermissionSet A)) (statements : List Placed) (s : Placed)
    → ArePermissionSets modules names policy sets (flat_map (permission_set_if policy) statements) → is_set_statement (kind_of s.form) ≡ false
    → ArePermissionSets modules names policy sets (flat_map (permission_set_if policy) (statements ++ s ∷ []))
sets-stay modules names policy sets statements s so_far other = record {
  is = stay (permission_set_of modules names) (permission_set_if policy) sets sets statements s so_far.is refl (no-set policy s s.form other);
  below = so_far.below;
  give = so_far.give;
}
