-- What the set statements of a policy give, by symbols.
use Rattle.std.specs.Prelude.{◌≡◌, ◌<◌, ◌*◌, ◌+◌, ◌&&◌, ℕ, Bool, false, List, Option, None, Some, IsTrue, bytes_eq, min, nat_lt, slice_get}
use Rattle.std.specs.Int.{bit_at}
use Rattle.cil_specs.specs.Meaning as meanings
use Rattle.cil_specs.specs.Meaning.{Meaning, is_in, keeps_type}
use Rattle.cil_specs.specs.Members.{is_member}
use Rattle.cil_specs.specs.Rule.{Element, an_attribute, SetStatement}
use Rattle.cil_specs.specs.Sets.{mentions}

-- a test of a name, which fails where there is none
abbrev pub of_name : (List ℕ → Bool) → Option (List ℕ) → Bool
of_name test None = false
of_name test (Some name) = test name

-- whether a policy keeps the type of a symbol
unfoldable pub keeps : List (List ℕ) → Meaning → ℕ → Bool
keeps symbols meaning t = of_name (keeps_type meaning) (slice_get symbols t)

-- whether the expression of a set statement holds the type of a symbol
unfoldable pub holds : List (List ℕ) → Meaning → SetStatement → ℕ → Bool
holds symbols meaning s t = of_name (is_in meaning s.expr) (slice_get symbols t)

-- whether a set statement is of the attribute of a symbol
unfoldable pub is_of : List (List ℕ) → SetStatement → ℕ → Bool
is_of symbols s a = of_name (λ name. bytes_eq name s.attribute) (slice_get symbols a)

-- whether it is of the attribute and holds the type
abbrev pub gives : List (List ℕ) → Meaning → ℕ → ℕ → SetStatement → Bool
gives symbols meaning a t s = is_of symbols s a && holds symbols meaning s t

-- Counters above 0 tell the members of each attribute that a set statement mentions.
abbrev pub Tell : List (List ℕ) → Meaning → SetStatement → (ℕ → ℕ → ℕ) → Type 0
Tell symbols meaning s counts = (a t : ℕ) (attribute name : List ℕ) → slice_get symbols a ≡ Some attribute → slice_get symbols t ≡ Some name
    → IsTrue (mentions attribute s.expr) → nat_lt 0 (counts a t) ≡ is_member meaning attribute name

-- whether a name of an expression holds the type of a symbol
unfoldable pub element_holds : List (List ℕ) → Meaning → Element → ℕ → Bool
element_holds symbols meaning element t = of_name (meanings.holds meaning element) (slice_get symbols t)

-- The attribute of a name of an expression has the same members before and now at each symbol of a word whose bit isn't set.
abbrev pub IsUnchanged : List (List ℕ) → (before now : ℕ → ℕ → ℕ) → Element → ℕ → ℕ → Type 0
IsUnchanged symbols before now element word bits = (attribute : List ℕ) (a b : ℕ) → element ≡ an_attribute attribute → slice_get symbols a ≡ Some attribute
    → b < 64 → bit_at bits b ≡ 0 → min 1 (now a (64 * word + b)) ≡ min 1 (before a (64 * word + b))
