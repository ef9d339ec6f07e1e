-- What an evaluation of the next expression finds.
use Rattle.std.specs.Prelude.{◌≡◌, Bool, true, false, List, [], ◌∷◌, ◌++◌, Contains}
use Rattle.cil_specs.specs.Expr.{Expr, leaves}
use Rattle.cil_parse.specs.declared.row.SetNode.{SetNode}
use Rattle.cil_parse.specs.declared.row.SetNode.TheVariants as nodes
use Rattle.cil_expression.specs.Spelling.{nodes_of}
use Rattle.cil_expression.specs.Holds.{holds_by, Answers}

-- whether a list of elements goes on at a node
abbrev pub is_element : SetNode → Bool
is_element nodes.Element = true
is_element _ = false

-- no list of elements goes on at the first node
abbrev pub HasNoElement : List SetNode → Type 0
HasNoElement [] = Unit {0}
HasNoElement (node ∷ more) = is_element node ≡ false

-- The nodes and the names are those of the expression, and then these.
pub record Begins {leaf : Type 0} (spelling : List SetNode) (names : List leaf) (expr : Expr leaf) (more : List SetNode) (others : List leaf) : Type 0 where
  pub nodes_are : spelling ≡ nodes_of expr ++ more
  pub names_are : names ≡ leaves expr ++ others

-- The value of an expression was found, and these nodes and names are left.
pub record IsFound {leaf : Type 0} (found is : Bool) (left more : List SetNode) (names others : List leaf) : Type 0 where
  pub value_is : found ≡ is
  pub nodes_are : left ≡ more
  pub names_are : names ≡ others

-- Where an expression stands in front and known answers by values for each of its names, what was found is its value, and what is left
-- stands behind it.
abbrev pub IsValue : {leaf : Type 0} → (leaf → Bool → Type 0) → List SetNode → List leaf → Bool → List SetNode → List leaf → Type 0
IsValue {leaf} known spelling names found left_nodes left_names =
    (expr : Expr leaf) (more : List SetNode) (others : List leaf) (value : leaf → Bool) → Begins spelling names expr more others
    → Answers known (λ e. Contains (leaves expr) e) value → IsFound found (holds_by value expr) left_nodes more left_names others

-- so of two expressions
pub record AreFound {leaf : Type 0} (first is_first second is_second : Bool) (left more : List SetNode) (names others : List leaf) : Type 0 where
  pub first_is : first ≡ is_first
  pub second_is : second ≡ is_second
  pub nodes_are : left ≡ more
  pub names_are : names ≡ others

abbrev pub AreValues : {leaf : Type 0} → (leaf → Bool → Type 0) → List SetNode → List leaf → Bool → Bool → List SetNode → List leaf → Type 0
AreValues {leaf} known spelling names first second left_nodes left_names =
    (x y : Expr leaf) (more : List SetNode) (others : List leaf) (value : leaf → Bool)
    → spelling ≡ (nodes_of x ++ nodes_of y) ++ more → names ≡ (leaves x ++ leaves y) ++ others
    → Answers known (λ e. Contains (leaves x ++ leaves y) e) value
    → AreFound first (holds_by value x) second (holds_by value y) left_nodes more left_names others
