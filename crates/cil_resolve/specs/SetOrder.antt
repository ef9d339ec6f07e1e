-- Set statements in the order of their dependence, by numbers.
use Rattle.std.specs.Prelude.{◌≡◌, ◌≢◌, ◌<◌, ◌≤◌, ℕ, List, [], ◌∷◌, All, AllPairs, Contains, IsTrue, Some, map, length, filter_map, nat_eq, slice_get, slice_index}
use Rattle.std.specs.List.{list_all, list_any}
use Rattle.cil_specs.specs.Expr.{leaves}
use Rattle.cil_expression.specs.Expression.{set_expr_in}
use Rattle.cil_specs.specs.Report.{names_rise}
use Rattle.cil_resolve.specs.Below.{is_set_below}
use Rattle.cil_expression.specs.declared.expression.Element.{Element}
use Rattle.cil_expression.specs.declared.expression.Element.TheVariants.{Attribute}
use Rattle.cil_resolve.specs.declared.numbered.NumberedSet.{NumberedSet}

-- what the names of a set statement's expression lead to
abbrev pub names_in : {A : Type 0} → NumberedSet A → List Element
names_in s = leaves (set_expr_in s.expression)

-- a set statement is of one attribute, and mentions another
abbrev pub Mentions : {A : Type 0} → NumberedSet A → ℕ → ℕ → Type 0
Mentions s a b = (s.attribute ≡ a) × Contains (names_in s) (Attribute b)

-- An attribute depends on another in one step: a set statement of the one mentions the other.
pub record IsNext {A : Type 0} (sets : List (NumberedSet A)) (a b : ℕ) : Type 0 where
  pub s : NumberedSet A
  pub is_in : Contains sets s
  pub mentions : Mentions s a b

-- by way of those between, in their order
abbrev pub DependsThrough : {A : Type 0} → List (NumberedSet A) → ℕ → List ℕ → ℕ → Type 0
DependsThrough sets a [] b = IsNext sets a b
DependsThrough sets a (next ∷ between) b = IsNext sets a next × DependsThrough sets next between b

-- no attribute depends on itself
abbrev pub AreStraight : {A : Type 0} → List (NumberedSet A) → Type 0
AreStraight sets = (a : ℕ) (between : List ℕ) → DependsThrough sets a between a → ⊥

-- the set statements at these numbers
abbrev pub sets_at : {A : Type 0} → List (NumberedSet A) → List ℕ → List (NumberedSet A)
sets_at sets numbers = filter_map (slice_get sets) numbers

abbrev pub attributes_in : {A : Type 0} → List (NumberedSet A) → List ℕ
attributes_in sets = map (λ s. s.attribute) sets

-- what stands between two of the same is the same
abbrev pub StandTogether : List ℕ → Type 0
StandTogether numbers = (i j k : ℕ) → i < j → j < k → k < length numbers → slice_index numbers i ≡ slice_index numbers k → slice_index numbers j ≡ slice_index numbers i

-- The numbers of set statements, each once. What a statement mentions has no statement at its place or behind it, and statements of one attribute stand together.
pub record IsSetOrder {A : Type 0} (sets : List (NumberedSet A)) (order : List ℕ) : Type 0 where
  pub all : (n : ℕ) → n < length sets → IsTrue (list_any (nat_eq n) order)
  pub within : All (λ n. n < length sets) order
  pub once : AllPairs (λ m n. m ≢ n) order
  pub in_order : (i j : ℕ) (s t : NumberedSet A) → i ≤ j → j < length order → slice_get sets (slice_index order i) ≡ Some s → slice_get sets (slice_index order j) ≡ Some t
      → Contains (names_in s) (Attribute t.attribute) → ⊥
  pub together : StandTogether (map (slice_index (attributes_in sets)) order)

-- Set statements with numbers below that of these names, which rise.
pub record AreNamed {A : Type 0} (modules names : List (List ℕ)) (sets : List (NumberedSet A)) : Type 0 where
  pub rise : IsTrue (names_rise names)
  pub below : IsTrue (list_all (is_set_below (length names)) sets)
