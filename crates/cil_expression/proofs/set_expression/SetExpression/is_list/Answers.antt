use Rattle.std.proofs.Common.{◌≡◌, sym, ap, ◌∙◌, List, Some, None, Option, Bor, MatchOption, is_some, false}
use Rattle.cil_specs.specs.Expr.{Expr, listed}
use Rattle.cil_parse.specs.Forms.{is_plain}
use Rattle.cil_expression.specs.Expression.{set_expr_in}
use Rattle.cil_expression.specs.declared.expression.Element.{Element}
use Rattle.cil_expression.proofs.ListedLemmas.{listed-plain}
use Rattle.cil_expression.proofs.set_expression.SetExpression.is_list.Goals as goal

told : (found : Option (Bor (List Element))) (e : Expr Element) → MatchOption found (is_plain e ≡ false) (λ names. e ≡ listed names.now)
    → is_some found ≡ is_plain e
told None e is = sym is
told (Some names) e is = sym (ap is_plain is ∙ listed-plain names.now)

pub returns : goal.returns
returns g c = c.is_some.ensures ∙ told c.as_list.result (set_expr_in c.args.self.now) c.as_list.ensures
