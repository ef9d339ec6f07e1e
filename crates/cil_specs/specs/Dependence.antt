-- Set statements in the order of dependence.
use Rattle.std.specs.Prelude.{◌≡◌, ◌↔◌, Bool, false, ℕ, List, [], ◌∷◌, bytes_eq, Contains, IsTrue}
use Rattle.std.specs.List.{list_any}
use Rattle.cil_specs.specs.Rule.{SetStatement}
use Rattle.cil_specs.specs.Sets.{mentions}

-- whether an attribute has a set statement among these
abbrev pub has_set : List SetStatement → List ℕ → Bool
has_set sets attribute = list_any (λ s. bytes_eq attribute s.attribute) sets

-- What a statement mentions has no set statement at its place or behind it.
abbrev pub AreInOrder : List SetStatement → Type 0
AreInOrder [] = Unit {0}
AreInOrder (s ∷ sets) = ((attribute : List ℕ) → IsTrue (mentions attribute s.expr) → has_set (s ∷ sets) attribute ≡ false) × AreInOrder sets

-- the same set statements, in whatever order
abbrev pub AreTheSame : List SetStatement → List SetStatement → Type 0
AreTheSame sets others = (s : SetStatement) → Contains sets s ↔ Contains others s
