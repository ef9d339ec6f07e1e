-- The set statements of a resolved policy, as evaluation sees them.
use Rattle.std.specs.Prelude.{◌≡◌, ◌==◌, ◌<◌, ℕ, length, Bool, List, [], map, IsTrue, slice_index_or}
use Rattle.cil_specs.specs.Rule.{SetStatement}
use Rattle.cil_specs.specs.Sets.{mentions}
use Rattle.cil_specs.specs.Members.{is_member}
use Rattle.cil_expression.specs.declared.expression.Element.{Element}
use Rattle.cil_expression.specs.declared.expression.Element.TheVariants.{«Type», Attribute}
use Rattle.cil_resolve.specs.Numbers.{set_of}
use Rattle.cil_resolve.specs.Resolved.{meaning_in}
use Rattle.cil_resolve.specs.SetOrder.{sets_at}
use Rattle.cil_resolve.specs.declared.resolved.Resolved.{Resolved}

-- the name of a number
abbrev pub name_in : {A : Type 0} → Resolved A → ℕ → List ℕ
name_in r i = slice_index_or r.names.items i []

-- the set statements in the order of their dependence
abbrev pub sets_in : {A : Type 0} → Resolved A → List SetStatement
sets_in r = map (set_of r.modules.items r.names.items) (sets_at r.sets.sets.items r.sets.order.items)

-- the answer for a name of an expression, at the type of this number: whether it is that type, or what is known of the attribute
abbrev pub IsAnswer : (ℕ → Bool → Type 0) → ℕ → Element → Bool → Type 0
IsAnswer post t («Type» n) answer = answer ≡ (n == t)
IsAnswer post t (Attribute a) answer = post a answer

-- Each answer for an attribute that a set statement mentions says whether the type of this number is a member of it.
abbrev pub TellsMembers : {A : Type 0} → Resolved A → (ℕ → Bool → Type 0) → SetStatement → ℕ → Type 0
TellsMembers r post s t = (a : ℕ) (answer : Bool) → a < length r.names.items → IsTrue (mentions (name_in r a) s.expr) → post a answer → answer ≡ is_member (meaning_in r) (name_in r a) (name_in r t)
