-- Where set statements are evaluated, by symbols of types.
use Rattle.std.specs.Prelude.{◌≡◌, ◌≢◌, ◌⊎◌, ◌<◌, ◌*◌, ◌+◌, ◌/◌, ◌||◌, ◌==◌, ℕ, Bool, List, Contains, IsTrue, Some, bit_and, min, slice_get}
use Rattle.std.specs.Int.{bit_at}
use Rattle.cil_matching.specs.Matching.{Matched}
use Rattle.cil_resolve.specs.Resolved.{meaning_in}
use Rattle.cil_resolve.specs.declared.resolved.Resolved.{Resolved}
use Rattle.cil_member_updates.specs.Places.{set_at}
use Rattle.cil_specs.specs.Expr.{leaves}
use Rattle.cil_specs.specs.Meaning.{Meaning, keeps_type}
use Rattle.cil_specs.specs.Members.{is_member}
use Rattle.cil_specs.specs.Rule.{Element, an_attribute, SetStatement}
use Rattle.cil_specs.specs.Sets.{differ, mentions}
use Rattle.cil_sums.specs.Rises.{up_to}
use Rattle.cil_member_updates.specs.Given.{holds, keeps}
use Rattle.cil_member_updates.specs.Passes.{stayed}
use Rattle.cil_member_updates.specs.Policy.{given}

-- whether a bit of a word is both to be visited and that of a kept type
abbrev pub is_asked : ℕ → ℕ → ℕ → Bool
is_asked visits kept = up_to (λ b. bit_at (bit_and visits kept) b == 1) 64

-- a policy keeps the type
abbrev pub IsKept : List (List ℕ) → Meaning → ℕ → Type 0
IsKept symbols meaning t = IsTrue (keeps symbols meaning t)

-- a set statement holds it
abbrev pub IsHeld : List (List ℕ) → Meaning → SetStatement → ℕ → Type 0
IsHeld symbols meaning s t = IsTrue (holds symbols meaning s t)

-- one of two policies holds it by the set statement, and the other doesn't by the same
abbrev pub IsMovedAt : List (List ℕ) → Meaning → SetStatement → Meaning → SetStatement → ℕ → Type 0
IsMovedAt symbols old s new r t = IsTrue (differ (holds symbols old s t) (holds symbols new r t))

-- One of two policies keeps the type alone, or an attribute that a set statement of both mentions has it as a member in one of them alone.
pub record IsUnsettled (symbols : List (List ℕ)) (old new : Meaning) (s : SetStatement) (t : ℕ) : Type 0 where
  pub name : List ℕ
  pub here : slice_get symbols t ≡ Some name
  pub kept : IsTrue (keeps_type old name || keeps_type new name)
  pub why : IsTrue (differ (keeps_type old name) (keeps_type new name))
      ⊎ ((attribute : List ℕ) × IsTrue (mentions attribute s.expr) × IsTrue (differ (is_member old attribute name) (is_member new attribute name)))

-- at the symbols of a word
abbrev pub InWord : ℕ → (ℕ → Type 0) → ℕ → Type 0
InWord word P t = (t / 64 ≡ word) × P t

-- the attribute of a name of an expression has the type as a member either before or now
abbrev pub HasTurned : List (List ℕ) → (before now : ℕ → ℕ → ℕ) → Element → ℕ → Type 0
HasTurned symbols before now element t = (attribute : List ℕ) × (a : ℕ) × (element ≡ an_attribute attribute) × (slice_get symbols a ≡ Some attribute) × (min 1 (now a t) ≢ min 1 (before a t))

-- it has so at each symbol of a word whose bit is set
abbrev pub IsTurnedAt : List (List ℕ) → (before now : ℕ → ℕ → ℕ) → Element → ℕ → ℕ → Type 0
IsTurnedAt symbols before now element word bits = (b : ℕ) → b < 64 → bit_at bits b ≡ 1 → HasTurned symbols before now element (64 * word + b)

-- one of those that the set statement at a place mentions has
abbrev pub AreTurnedAt : {A : Type 0} → List (List ℕ) → (before now : ℕ → ℕ → ℕ) → Resolved A → ℕ → ℕ → ℕ → Type 0
AreTurnedAt symbols before now r i word bits = (b : ℕ) → b < 64 → bit_at bits b ≡ 1 → (element : Element) × Contains (leaves (set_at r i).expr) element × HasTurned symbols before now element (64 * word + b)

-- Where a bit of a word is set, one of two policies keeps the type alone, or it is one that a set statement may hold in one of them alone.
abbrev pub AreUnsettledAt : List (List ℕ) → Meaning → Meaning → SetStatement → ℕ → ℕ → Type 0
AreUnsettledAt symbols old new s word bits = (b : ℕ) → b < 64 → bit_at bits b ≡ 1 → IsTrue (keeps symbols old (64 * word + b) || keeps symbols new (64 * word + b)) → IsUnsettled symbols old new s (64 * word + b)

-- the new policy doesn't have the set statement at a place of the old one, which keeps the type
abbrev pub MayGo : {A : Type 0} → List (List ℕ) → Resolved A → Matched → ℕ → ℕ → Type 0
MayGo symbols old m i t = ((j : ℕ) → slice_get m.ahead i ≡ Some (Some j) → ⊥) × IsKept symbols (meaning_in old) t

-- such a set statement held it
abbrev pub Goes : {A : Type 0} → List (List ℕ) → Resolved A → Matched → ℕ → ℕ → Type 0
Goes symbols old m i t = ((j : ℕ) → slice_get m.ahead i ≡ Some (Some j) → ⊥) × IsHeld symbols (meaning_in old) (set_at old i) t

-- the old policy doesn't have the set statement at a place of the new one, which keeps the type; or it has, and the type is unsettled
abbrev pub MayTurn : {A B : Type 0} → List (List ℕ) → Resolved A → Resolved B → Matched → ℕ → ℕ → Type 0
MayTurn symbols old new m j t = (((i : ℕ) → slice_get m.back j ≡ Some (Some i) → ⊥) × IsKept symbols (meaning_in new) t)
    ⊎ ((i : ℕ) × (slice_get m.back j ≡ Some (Some i)) × IsUnsettled symbols (meaning_in old) (meaning_in new) (set_at new j) t)

-- the set statement at a place of the new policy gives an attribute the type, and it gave none in the old policy, or wasn't there
abbrev pub Comes : {A B : Type 0} → List (List ℕ) → Resolved A → Resolved B → Matched → ℕ → ℕ → Type 0
Comes symbols old new m j t = (a : ℕ) × (stayed symbols old m a t j < given symbols new j a t)
