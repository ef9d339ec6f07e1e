-- What holds of the statements of modules that are spelt by texts.
use Rattle.cil_bind.proofs.Common.{◌≡◌, ℕ, Bool, true, false, not, ◌||◌, List, [], ◌∷◌, map, None, Some, if◌then◌else◌, refl, sym, AllByRecursion, list_any, IfSome, none-some, Word, declared, is_name, components, is_reserved, Form, block, type_name, type_alias, type_attribute, common, class, class_permission, class_permission_set, rule, anonymous, target_words, words_of, as_declared, as_referred, is_optional, Statements, no_more, statement, are_apart, Module, namespace_inside, optionals_inside, placed, joined, AreApart, types, declared_in, all-weaker, all-append, all-second, all-contained, permissions_in}
use Rattle.cil_specs.specs.Expr.{leaves}
use Rattle.cil_specs.specs.Lookup as lookup
use Rattle.cil_specs.specs.TextFault.{bad_name, reserved}
use Rattle.cil_specs.specs.Shape.{IsGoodWord, Shapes}
use Rattle.cil_specs.specs.Trees.{Trees}
use Rattle.cil_specs.proofs.ShapeLemmas.{shapes_apart}
use Rattle.cil_specs.proofs.ApartLemmas.{joined-apart}
use Rattle.cil_text.proofs.NameLemmas.{name-one}
use Rattle.cil_bind.specs.Written.{IsWritten, AreWritten, IsOneName, IsName, HasOneNames, HaveOneNames}

pub written-apart : (modules : List Module) → AreWritten modules → AreApart (joined modules)
written-apart modules written = joined-apart modules (all-weaker IsWritten (λ m. are_apart false m.statements ≡ true) (λ m w. shapes_apart m.statements false w.trees w.shapes) modules written)

-- a good word in the place of a name is one
good-spelt : (w : Word) → IsGoodWord (declared, w) → IsName w.text
good-spelt w good = by (is_name w.text) refl good
  where
    by : (b : Bool) → is_name w.text ≡ b → (if not b then Some bad_name else if list_any is_reserved (components w.text) then Some reserved else None) ≡ None → b ≡ true
    by true e good = refl
    by false e good = absurd (none-some bad_name (sym good))

good-name : (w : Word) → IsGoodWord (declared, w) → IsOneName w
good-name w good = name-one w.text (good-spelt w good)

good-names : (words : List Word) → AllByRecursion IsGoodWord (map as_declared words) → AllByRecursion IsOneName words
good-names [] good = tt
good-names (w ∷ words) good = (good-name w good.0, good-names words good.1)

good-permissions : (form : Form) → AllByRecursion IsGoodWord (words_of form) → AllByRecursion IsOneName (permissions_in form)
good-permissions (common id permissions) good = good-names permissions good.1
good-permissions (class id permissions) good = good-names permissions good.1
good-permissions (class_permission_set set the_class permissions) good = good-names (leaves permissions) good.1.1
good-permissions (rule kind source target (anonymous the_class permissions)) good =
    good-names (leaves permissions) (all-second IsGoodWord (map as_referred (target_words target)) (as_referred the_class ∷ map as_declared (leaves permissions)) good.1).1
good-permissions _ good = tt

good-declared : (form : Form) → AllByRecursion IsGoodWord (words_of form) → IfSome (declared_in types form) (λ word. IsName word.text)
good-declared (type_name id) good = good-spelt id good.0
good-declared (type_alias id) good = good-spelt id good.0
good-declared (type_attribute id) good = good-spelt id good.0
good-declared _ good = tt

good-class : (form : Form) → AllByRecursion IsGoodWord (words_of form) → IfSome (declared_in lookup.classes form) (λ word. IsName word.text)
good-class (class id permissions) good = good-spelt id good.0
good-class _ good = tt

good-set : (form : Form) → AllByRecursion IsGoodWord (words_of form) → IfSome (declared_in lookup.permission_sets form) (λ word. IsName word.text)
good-set (class_permission id) good = good-spelt id good.0
good-set _ good = tt

good-inside : (form : Form) (namespace : List (List ℕ)) → AllByRecursion IsGoodWord (words_of form) → AllByRecursion IsName namespace → AllByRecursion IsName (namespace_inside form namespace)
good-inside (block id) namespace good blocks = (good-spelt id good.0, blocks)
good-inside _ namespace good blocks = blocks

placed-names : (name : List ℕ) (namespace : List (List ℕ)) (optionals : List ℕ) (inside : Bool) (trees : Trees) (statements : Statements) → AllByRecursion IsName namespace → Shapes inside trees statements
    → AllByRecursion HasOneNames (placed name namespace optionals statements)
placed-names name namespace optionals inside trees no_more blocks shapes = tt
placed-names name namespace optionals inside trees (statement at form body more) blocks (end, parts, inner, rest, is, fits, allowed, good, within, behind) = (
  record { declared = good-declared form good; declared_class = good-class form good; declared_set = good-set form good; blocks = blocks; permissions = good-permissions form good },
  all-append HasOneNames (placed name (namespace_inside form namespace) (optionals_inside form at optionals) body) (placed name namespace optionals more)
      (placed-names name (namespace_inside form namespace) (optionals_inside form at optionals) (inside || is_optional form) inner body (good-inside form namespace good blocks) within)
      (placed-names name namespace optionals inside rest more blocks behind),
)

joined-names : (modules : List Module) → AreWritten modules → AllByRecursion HasOneNames (joined modules)
joined-names [] written = tt
joined-names (m ∷ modules) written =
    all-append HasOneNames (placed m.name [] [] m.statements) (joined modules) (placed-names m.name [] [] false written.0.trees m.statements tt written.0.shapes) (joined-names modules written.1)

pub written-names : (modules : List Module) → AreWritten modules → HaveOneNames (joined modules)
written-names modules written s there = all-contained HasOneNames (joined modules) s (joined-names modules written) there
