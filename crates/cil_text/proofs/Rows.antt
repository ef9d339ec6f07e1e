-- The lists in expressions and statements.
use Rattle.cil_text.proofs.Common.{◌≡◌, Vec, refl, ap, ◌∙◌, elements, block, optional, Statements, statement, place_of, expr_of, row_expr, word_of, statement_then, row_statements, statements_of, exprs_of, Place, Word, Expr, Row_of-Expr, end_of-Expr, more_of-Expr, Statement, Row_of-Statement, end_of-Statement, more_of-Statement}
use Rattle.cil_text.specs.declared.statement.Expr.TheVariants.{Union}
use Rattle.cil_text.specs.declared.statement.Expr.TheBlock.{items-the_row-Expr, hidden-the_row-Expr-0, items_hidden-the_row-Expr-0}
use Rattle.cil_text.specs.declared.statement.Statement.TheVariants.{Block, Optional}
use Rattle.cil_text.specs.declared.statement.Statement.TheBlock.{items-the_row-Statement, hidden-the_row-Statement-0, items_hidden-the_row-Statement-0}

row-exprs : {A : Type 0} {n : _} → (k : Row_of-Expr A n) → row_expr k ≡ exprs_of (items-the_row-Expr A n k)
row-exprs end_of-Expr = refl
row-exprs (more_of-Expr x rest) = ap (elements (expr_of x)) (row-exprs rest)

-- a union is its elements
pub union_of : {A : Type 0} → (v : Vec (Expr A) A) → expr_of (Union v) ≡ exprs_of v.items
union_of {A} v = row-exprs (hidden-the_row-Expr-0 A v) ∙ ap exprs_of (items_hidden-the_row-Expr-0 A v)

row-statements : {A : Type 0} {n : _} → (k : Row_of-Statement A n) → row_statements k ≡ statements_of (items-the_row-Statement A n k)
row-statements end_of-Statement = refl
row-statements (more_of-Statement s rest) = ap (statement_then s) (row-statements rest)

-- a block and an optional are their places and names and the statements inside them
pub block_then : {A : Type 0} → (at : Place) (id : Word) (v : Vec (Statement A) A) (more : Statements) → statement_then (Block at id v) more ≡ statement (place_of at) (block (word_of id)) (statements_of v.items) more
block_then {A} at id v more =
    ap (λ body. statement (place_of at) (block (word_of id)) body more) (row-statements (hidden-the_row-Statement-0 A v) ∙ ap statements_of (items_hidden-the_row-Statement-0 A v))

pub optional_then : {A : Type 0} → (at : Place) (id : Word) (v : Vec (Statement A) A) (more : Statements) → statement_then (Optional at id v) more ≡ statement (place_of at) (optional (word_of id)) (statements_of v.items) more
optional_then {A} at id v more =
    ap (λ body. statement (place_of at) (optional (word_of id)) body more) (row-statements (hidden-the_row-Statement-0 A v) ∙ ap statements_of (items_hidden-the_row-Statement-0 A v))
