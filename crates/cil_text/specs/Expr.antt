-- What the code finds of expressions of types and of permissions, where it says so by an option.
use Rattle.std.specs.Prelude.{◌≡◌, ℕ, List, [], ◌∷◌, Option, Some, None, Vec, Box, codes, option_map}
use Rattle.cil_specs.specs.Place.{Place}
use Rattle.cil_specs.specs.Trees.{Trees, none, a_word, a_list}
use Rattle.cil_specs.specs.Expr as spec
use Rattle.cil_specs.specs.Expr.{nothing, elements, Expresses, Lists}
use Rattle.cil_specs.specs.Shape.{IsExpressionList}
use Rattle.cil_text.specs.Image.{expr_of}
use Rattle.cil_text.specs.declared.statement.Expr.{Expr}
use Rattle.cil_text.specs.declared.expr.Operator.{Operator}
use Rattle.cil_text.specs.declared.expr.Operator.TheVariants.{And, Or, Xor, Not, All}

abbrev pub operator_word : Operator → List ℕ
operator_word And = codes "and"
operator_word Or = codes "or"
operator_word Xor = codes "xor"
operator_word Not = codes "not"
operator_word All = codes "all"

abbrev pub exprs_of : {A : Type 0} → List (Expr A) → spec.WordExpr
exprs_of [] = nothing
exprs_of (x ∷ xs) = elements (expr_of x) (exprs_of xs)

-- the front spells the expression, whatever follows it, or none
abbrev pub SpellsExpr : {A : Type 0} → (Trees → Trees) → Option (Expr A) → Type 0
SpellsExpr front None = (expr : spec.WordExpr) (rest after : Trees) → Expresses (front rest) expr after → ⊥
SpellsExpr front (Some x) = (rest : Trees) → Expresses (front rest) (expr_of x) rest

-- the front spells the boxed expression, whatever follows it, or none
abbrev pub SpellsBoxed : {A : Type 0} → (Trees → Trees) → Option (Box (Expr A) A) → Type 0
SpellsBoxed front found = SpellsExpr front (option_map (λ x. x.value) found)

-- the trees are one list, which spells the expression, or not
abbrev pub AreExpressionList : {A : Type 0} → Trees → Option (Expr A) → Type 0
AreExpressionList trees None = (expr : spec.WordExpr) → IsExpressionList trees expr → ⊥
AreExpressionList trees (Some x) = IsExpressionList trees (expr_of x)

-- the trees spell the elements, or none
abbrev pub SpellsElements : {A : Type 0} → Trees → Option (Vec (Expr A) A) → Type 0
SpellsElements trees None = (expr : spec.WordExpr) → Lists trees expr → ⊥
SpellsElements trees (Some v) = Lists trees (exprs_of v.items)

-- a list of an operator and operands spells the expression, or none
abbrev pub SpellsOperation : {A : Type 0} → List ℕ → Trees → Option (Expr A) → Type 0
SpellsOperation operator operands found = (at place : Place) (end : ℕ) → SpellsExpr (a_list at end (a_word place operator operands)) found

-- the trees are one expression and nothing else, or not
abbrev pub SpellsOne : {A : Type 0} → Trees → Option (Box (Expr A) A) → Type 0
SpellsOne trees None = (expr : spec.WordExpr) → Expresses trees expr none → ⊥
SpellsOne trees (Some x) = Expresses trees (expr_of x.value) none

-- the trees are two expressions and nothing else, or not
abbrev pub SpellsTwo : {A : Type 0} → Trees → Option (Box (Expr A) A × Box (Expr A) A) → Type 0
SpellsTwo trees None = (x y : spec.WordExpr) (second : Trees) → Expresses trees x second → Expresses second y none → ⊥
SpellsTwo trees (Some (x, y)) = (second : Trees) × Expresses trees (expr_of x.value) second × Expresses second (expr_of y.value) none

-- the trees are the operator's word and these operands
abbrev pub BeginsOperation : Trees → Operator → Trees → Type 0
BeginsOperation trees operator operands = (place : Place) × (trees ≡ a_word place (operator_word operator) operands)
