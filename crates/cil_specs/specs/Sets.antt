-- The types that typeattributeset statements associate to an attribute, those that an expression holds, and which attributes depend
-- on which.
use Rattle.std.specs.Prelude.{◌≡◌, ℕ, zero, suc, Bool, false, ◌&&◌, List, [], ◌∷◌, bytes_eq, Contains, IsTrue}
use Rattle.std.specs.List.{list_any}
use Rattle.cil_specs.specs.Expr.{Expr, holds_by, leaves}
pub use Rattle.cil_specs.specs.Expr.{differ}
use Rattle.cil_specs.specs.Rule.{Element, a_type, an_attribute, SetStatement}

-- whether a name of an expression holds a type: a type holds itself alone, and known tells which attributes hold it
abbrev pub element_holds : (List ℕ → Bool) → Element → List ℕ → Bool
element_holds known (a_type name) t = bytes_eq name t
element_holds known (an_attribute name) t = known name

-- whether an expression holds a type that the policy keeps, where known tells which attributes hold it
abbrev pub expr_holds : (List ℕ → Bool) → Expr Element → List ℕ → Bool
expr_holds known e t = holds_by (λ element. element_holds known element t) e

-- Whether an attribute holds a kept type: the expression of one of its set statements does. Each step from an attribute to those that
-- its expressions mention takes one of the fuel, and without fuel an attribute holds nothing.
abbrev pub attribute_holds : List SetStatement → ℕ → List ℕ → List ℕ → Bool
attribute_holds sets zero attribute t = false
attribute_holds sets (suc fuel) attribute t =
    list_any (λ s. bytes_eq attribute s.attribute && expr_holds (λ a. attribute_holds sets fuel a t) s.expr t) sets

-- whether an expression holds a kept type with this fuel
abbrev pub holds_with : List SetStatement → ℕ → Expr Element → List ℕ → Bool
holds_with sets fuel e t = expr_holds (λ a. attribute_holds sets fuel a t) e t

-- whether a name of an expression is this attribute
abbrev pub is_the_attribute : List ℕ → Element → Bool
is_the_attribute attribute (a_type name) = false
is_the_attribute attribute (an_attribute name) = bytes_eq attribute name

-- whether an expression mentions an attribute, under whatever operator
abbrev pub mentions : List ℕ → Expr Element → Bool
mentions attribute e = list_any (is_the_attribute attribute) (leaves e)

-- An attribute depends on another in one step: a set statement of the one mentions the other.
pub record IsNextOf (sets : List SetStatement) (attribute : List ℕ) (other : List ℕ) : Type 0 where
  pub s : SetStatement
  pub is_in : Contains sets s
  pub of_attribute : s.attribute ≡ attribute
  pub mentioned : IsTrue (mentions other s.expr)

-- an attribute depends on another by way of those between, in their order
abbrev pub DependsThrough : List SetStatement → List ℕ → List (List ℕ) → List ℕ → Type 0
DependsThrough sets attribute [] other = IsNextOf sets attribute other
DependsThrough sets attribute (next ∷ between) other = IsNextOf sets attribute next × DependsThrough sets next between other

-- in one or more steps
abbrev pub DependsOn : List SetStatement → List ℕ → List ℕ → Type 0
DependsOn sets attribute other = (between : List (List ℕ)) × DependsThrough sets attribute between other

-- no attribute depends on itself
abbrev pub HasNoCircle : List SetStatement → Type 0
HasNoCircle sets = (attribute : List ℕ) → DependsOn sets attribute attribute → ⊥
