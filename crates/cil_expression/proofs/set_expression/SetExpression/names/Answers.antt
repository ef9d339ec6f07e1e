use Rattle.cil_expression.proofs.Common.{sym, ap, ◌∙◌, leaves}
use Rattle.cil_expression.specs.Expression.{expr_by}
use Rattle.cil_expression.proofs.ListedLemmas.{leaves-listed}
use Rattle.cil_expression.proofs.set_expression.SetExpression.names.Goals as goal

pub returns-in-List : goal.returns-in-List
returns-in-List g c =
    c.as_slice.ensures.value ∙ sym (leaves-listed c.in-List.names.items) ∙ ap (λ form. leaves (expr_by form)) (sym c.in-List.is)
