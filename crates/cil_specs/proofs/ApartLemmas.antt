-- What stands apart in its module stands in no optional of the joined policy.
use Rattle.cil_specs.proofs.Common.{◌≡◌, ℕ, Bool, true, false, not, ◌&&◌, ◌||◌, List, [], ◌∷◌, refl, sym, ap, ◌∙◌, AllByRecursion, Place, Form, optional, Statements, no_more, statement, is_optional, stands_apart, are_apart, Module, Placed, namespace_inside, optionals_inside, placed, joined, AreApart}
use Rattle.std.proofs.Common.{true≢false}
use Rattle.cil_specs.proofs.Runs.{first_true, second_true, neither-first, neither-second}
use Rattle.cil_specs.proofs.NamesLemmas.{all-append, all-contained}

abbrev IsApart : Placed → Type 0
IsApart s = stands_apart s.form ≡ true → s.optionals ≡ []

not-inside : (inside apart : Bool) → not (inside && apart) ≡ true → apart ≡ true → inside ≡ false
not-inside false apart e there = refl
not-inside true apart e there = absurd (true≢false (sym e ∙ ap not there))

-- what is no optional stands around nothing as one
same-inside : (form : Form) (at : Place) (optionals : List ℕ) → is_optional form ≡ false → optionals_inside form at optionals ≡ optionals
same-inside (optional id) at optionals none = absurd (true≢false none)
same-inside _ at optionals none = refl

-- the statements of a module, or those inside one of its statements
placed-apart : (name : List ℕ) (namespace : List (List ℕ)) (optionals : List ℕ) (inside : Bool) (statements : Statements) → (inside ≡ false → optionals ≡ []) → are_apart inside statements ≡ true
    → AllByRecursion IsApart (placed name namespace optionals statements)
placed-apart name namespace optionals inside no_more outside apart = tt
placed-apart name namespace optionals inside (statement at form body more) outside apart =
    let others = second_true (not (inside && stands_apart form)) (are_apart (inside || is_optional form) body && are_apart inside more) apart in (
      λ there. outside (not-inside inside (stands_apart form) (first_true (not (inside && stands_apart form)) (are_apart (inside || is_optional form) body && are_apart inside more) apart) there),
      all-append IsApart (placed name (namespace_inside form namespace) (optionals_inside form at optionals) body) (placed name namespace optionals more)
          (placed-apart name (namespace_inside form namespace) (optionals_inside form at optionals) (inside || is_optional form) body
          (λ none. same-inside form at optionals (neither-second inside (is_optional form) none) ∙ outside (neither-first inside (is_optional form) none))
          (first_true (are_apart (inside || is_optional form) body) (are_apart inside more) others))
          (placed-apart name namespace optionals inside more outside (second_true (are_apart (inside || is_optional form) body) (are_apart inside more) others)),
    )

all-apart : (modules : List Module) → AllByRecursion (λ m. are_apart false m.statements ≡ true) modules → AllByRecursion IsApart (joined modules)
all-apart [] apart = tt
all-apart (m ∷ modules) apart =
    all-append IsApart (placed m.name [] [] m.statements) (joined modules) (placed-apart m.name [] [] false m.statements (λ _. refl) apart.0) (all-apart modules apart.1)

pub joined-apart : (modules : List Module) → AllByRecursion (λ m. are_apart false m.statements ≡ true) modules → AreApart (joined modules)
joined-apart modules apart s among there = all-contained IsApart (joined modules) s (all-apart modules apart) among there
