-- Set expressions by their nodes and by what their names lead to.
use Rattle.std.specs.Prelude.{◌≡◌, List, [], ◌∷◌, ◌++◌}
use Rattle.cil_specs.specs.Expr.{Expr, every, named, opposite, both, either, one_of, nothing, elements, leaves}
use Rattle.cil_parse.specs.declared.row.SetNode.{SetNode}
use Rattle.cil_parse.specs.declared.row.SetNode.TheVariants as nodes

-- the first of some expressions as the operand of another
abbrev pub with_one : {leaf : Type 0} → (Expr leaf → Expr leaf) → List (Expr leaf) → List (Expr leaf)
with_one f [] = []
with_one f (x ∷ others) = f x ∷ others

-- the first two as the operands of another
abbrev pub with_two : {leaf : Type 0} → (Expr leaf → Expr leaf → Expr leaf) → List (Expr leaf) → List (Expr leaf)
with_two f [] = []
with_two f (x ∷ []) = []
with_two f (x ∷ y ∷ others) = f x y ∷ others

-- the expressions that nodes spell one after the other, each node in front of those of its operands, with these leaves for their names
abbrev pub exprs_of : {leaf : Type 0} → List SetNode → List leaf → List (Expr leaf)
exprs_of [] names = []
exprs_of (nodes.All ∷ more) names = every ∷ exprs_of more names
exprs_of (nodes.Name ∷ more) [] = []
exprs_of (nodes.Name ∷ more) (l ∷ names) = named l ∷ exprs_of more names
exprs_of (nodes.Not ∷ more) names = with_one opposite (exprs_of more names)
exprs_of (nodes.And ∷ more) names = with_two both (exprs_of more names)
exprs_of (nodes.Or ∷ more) names = with_two either (exprs_of more names)
exprs_of (nodes.Xor ∷ more) names = with_two one_of (exprs_of more names)
exprs_of (nodes.Nothing ∷ more) names = nothing ∷ exprs_of more names
exprs_of (nodes.Element ∷ more) names = with_two elements (exprs_of more names)

abbrev pub first_or_nothing : {leaf : Type 0} → List (Expr leaf) → Expr leaf
first_or_nothing [] = nothing
first_or_nothing (x ∷ others) = x

-- the expression that nodes spell
abbrev pub expr_of : {leaf : Type 0} → List SetNode → List leaf → Expr leaf
expr_of spelling names = first_or_nothing (exprs_of spelling names)

-- the nodes of an expression, each in front of those of its operands
abbrev pub nodes_of : {leaf : Type 0} → Expr leaf → List SetNode
nodes_of every = nodes.All ∷ []
nodes_of (named l) = nodes.Name ∷ []
nodes_of (opposite x) = nodes.Not ∷ nodes_of x
nodes_of (both x y) = nodes.And ∷ (nodes_of x ++ nodes_of y)
nodes_of (either x y) = nodes.Or ∷ (nodes_of x ++ nodes_of y)
nodes_of (one_of x y) = nodes.Xor ∷ (nodes_of x ++ nodes_of y)
nodes_of nothing = nodes.Nothing ∷ []
nodes_of (elements x more) = nodes.Element ∷ (nodes_of x ++ nodes_of more)

-- The nodes and the names are those of one expression, and none is left over.
pub record IsSpelt {leaf : Type 0} (spelling : List SetNode) (names : List leaf) : Type 0 where
  pub expr : Expr leaf
  pub nodes_are : spelling ≡ nodes_of expr
  pub names_are : names ≡ leaves expr

-- The nodes and the names spell an expression that has just these. Which one it is follows from them, so this is a fact of one proof.
pub record IsWhole {leaf : Type 0} (spelling : List SetNode) (names : List leaf) : Type 0 where
  pub nodes_are : spelling ≡ nodes_of (expr_of spelling names)
  pub names_are : names ≡ leaves (expr_of spelling names)
