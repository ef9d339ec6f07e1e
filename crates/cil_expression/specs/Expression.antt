-- The expression that is kept.
use Rattle.cil_specs.specs.Expr.{Expr, named, nothing, elements, listed}
use Rattle.cil_expression.specs.declared.expression.Expression.{Expression}
use Rattle.cil_expression.specs.declared.expression.Element.{Element}
use Rattle.cil_expression.specs.declared.set_expression.Form.{Form}
use Rattle.cil_expression.specs.declared.set_expression.Form.TheVariants as forms
use Rattle.cil_expression.specs.declared.set_expression.SetExpression.{SetExpression}
use Rattle.cil_expression.specs.Spelling.{expr_of}

-- what nodes and names spell
abbrev pub expr_in : {leaf A : Type 0} → Expression leaf A → Expr leaf
expr_in e = expr_of e.nodes.items e.names.items

-- one name, a list of one name, a plain list of names, or what an expression is
abbrev pub expr_by : {A : Type 0} → Form A → Expr Element
expr_by (forms.Named element) = named element
expr_by (forms.Listed element) = elements (named element) nothing
expr_by (forms.List names) = listed names.items
expr_by (forms.Tree tree) = expr_in tree.value

-- a set expression
abbrev pub set_expr_in : {A : Type 0} → SetExpression A → Expr Element
set_expr_in s = expr_by s.form
