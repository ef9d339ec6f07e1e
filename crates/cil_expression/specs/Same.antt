-- Expressions of the same nodes, whose names are the same in pairs.
use Rattle.std.specs.Prelude.{◌≡◌, Bool, true, false, ◌&&◌, List, [], ◌∷◌, Contains}
use Rattle.cil_specs.specs.Expr.{Expr, leaves}
use Rattle.cil_parse.specs.declared.row.SetNode.{SetNode}
use Rattle.cil_parse.specs.declared.row.SetNode.TheVariants as nodes
use Rattle.cil_expression.specs.Spelling.{nodes_of}

-- whether two lists are of one length, and each item of the one is the same as that of the other at its place
abbrev pub all_same : {first second : Type 0} → (first → second → Bool) → List first → List second → Bool
all_same same [] [] = true
all_same same [] (y ∷ ys) = false
all_same same (x ∷ xs) [] = false
all_same same (x ∷ xs) (y ∷ ys) = same x y && all_same same xs ys

abbrev pub same_node : SetNode → SetNode → Bool
same_node nodes.All nodes.All = true
same_node nodes.Name nodes.Name = true
same_node nodes.Not nodes.Not = true
same_node nodes.And nodes.And = true
same_node nodes.Or nodes.Or = true
same_node nodes.Xor nodes.Xor = true
same_node nodes.Nothing nodes.Nothing = true
same_node nodes.Element nodes.Element = true
same_node _ _ = false

-- Whether two expressions are of one shape, that is, have the same nodes, and each leaf of the one is the same as that of the other.
abbrev pub are_same : {first second : Type 0} → (first → second → Bool) → Expr first → Expr second → Bool
are_same same e f = all_same same_node (nodes_of e) (nodes_of f) && all_same same (leaves e) (leaves f)

-- each answer for one of these and one of those is that of the pair
abbrev pub AnswersPairs : {leaf : Type 0} → (leaf → leaf → Bool → Type 0) → List leaf → List leaf → (leaf → leaf → Bool) → Type 0
AnswersPairs {leaf} post these those pairs = (x y : leaf) (r : Bool) → Contains these x → Contains those y → post x y r → r ≡ pairs x y
