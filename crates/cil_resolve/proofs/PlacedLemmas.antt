-- What a policy declares, and its rules, stand in its modules.
use Rattle.cil_resolve.proofs.Common.{◌≡◌, ◌∙◌, inl, inr, arith, ℕ, zero, suc, Bool, true, false, ◌&&◌, ◌||◌, List, [], ◌∷◌, Contains, Some, bytes_eq, refl, ap, if◌then◌else◌, list_all, or-true, none-some, same_Some, Form, rule, Placed, types, has_name, is_type, is_attribute, declared_as, class_as, is_class, types_of, attributes_of, classes_of, rules_of, rule_of, contains-cases, both_true, NamedModule, Row, bytes_eq-refl, are_placed_in}
use Rattle.std.proofs.Common.{slice_get}
use Rattle.cil_bind.specs.Scope.{AreFrom}
use Rattle.cil_resolve.specs.Modules.{names_of}
use Rattle.cil_resolve.proofs.ListLemmas.{all-of-flat}

-- the name of a module is among those of the modules
module-name : {A : Type 0} (parsed : List (NamedModule A)) (i : ℕ) (m : NamedModule A) (name : List ℕ) → slice_get parsed i ≡ Some m → m.name.now ≡ name → has_name (names_of parsed) name ≡ true
module-name [] i m name at is = absurd (none-some m at)
module-name (d ∷ parsed) zero m name at is =
    ap (λ n. bytes_eq name n || has_name (names_of parsed) name) (ap (λ o. o.name.now) (same_Some d m at) ∙ is) ∙ ap (λ b. b || has_name (names_of parsed) name) (bytes_eq-refl name)
module-name (d ∷ parsed) (suc i) m name at is = ap (λ b. bytes_eq name d.name.now || b) (module-name parsed i m name at is) ∙ or-true (bytes_eq name d.name.now)

-- each statement's module is among the modules that the rows are from
pub from-named : {A : Type 0} (parsed : List (NamedModule A)) (rows : List Row) (policy : List Placed) (s : Placed) → AreFrom parsed rows policy → Contains policy s → has_name (names_of parsed) s.module_name ≡ true
from-named parsed [] [] s are there = absurd (omega (arith, there.1))
from-named parsed [] (t ∷ policy) s are there = absurd are
from-named parsed (row ∷ rows) [] s are there = absurd are
from-named parsed (row ∷ rows) (t ∷ policy) s are there = elim (contains-cases t policy s there) [
  | inl same ↦ module-name parsed row.«module» are.0.m s.module_name are.0.at (are.0.named ∙ ap (λ u. u.module_name) same)
  | inr more ↦ from-named parsed rows policy s are.1 more
]

-- a list of one element or of none
one-or-none : {X : Type 0} (p : X → Bool) (b : Bool) (x : X) → p x ≡ true → list_all p (if b then x ∷ [] else []) ≡ true
one-or-none p true x e = ap (λ c. c && true) e
one-or-none p false x e = refl

-- what is declared, and the rules
pub all-placed : (modules : List (List ℕ)) (policy : List Placed) → ((s : Placed) → Contains policy s → has_name modules s.module_name ≡ true)
    → are_placed_in modules (types_of policy) (attributes_of policy) (classes_of policy) (rules_of policy) ≡ true
all-placed modules policy each =
    both_true _ _ types_in (both_true _ _ attributes_in (both_true _ _ classes_in rules_in))
  where
    types_in : list_all (λ d. has_name modules d.module_name) (types_of policy) ≡ true
    types_in = all-of-flat (λ d. has_name modules d.module_name) (λ s. if is_type s.form then declared_as types s ∷ [] else []) policy
        (λ s there. one-or-none (λ d. has_name modules d.module_name) (is_type s.form) (declared_as types s) (each s there))

    attributes_in : list_all (λ d. has_name modules d.module_name) (attributes_of policy) ≡ true
    attributes_in = all-of-flat (λ d. has_name modules d.module_name) (λ s. if is_attribute s.form then declared_as types s ∷ [] else []) policy
        (λ s there. one-or-none (λ d. has_name modules d.module_name) (is_attribute s.form) (declared_as types s) (each s there))

    classes_in : list_all (λ c. has_name modules c.module_name) (classes_of policy) ≡ true
    classes_in = all-of-flat (λ c. has_name modules c.module_name) (λ s. if is_class s.form then class_as policy s ∷ [] else []) policy
        (λ s there. one-or-none (λ c. has_name modules c.module_name) (is_class s.form) (class_as policy s) (each s there))

    in_rule : (s : Placed) (form : Form) → has_name modules s.module_name ≡ true → list_all (λ r. has_name modules r.module_name) (rule_of policy s form) ≡ true
    in_rule s (rule kind source target permissions) e = ap (λ c. c && true) e
    in_rule s _ e = refl

    rules_in : list_all (λ r. has_name modules r.module_name) (rules_of policy) ≡ true
    rules_in = all-of-flat (λ r. has_name modules r.module_name) (λ s. rule_of policy s s.form) policy (λ s there. in_rule s s.form (each s there))
