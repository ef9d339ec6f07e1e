use Rattle.cil_expression.proofs.Common.{sym, ap, ◌∙◌, subst, Contains, leaves, holds_by}
use Rattle.std.specs.List.{list_any}
use Rattle.cil_expression.specs.Expression.{expr_by}
use Rattle.cil_expression.proofs.ListedLemmas.{holds-listed, leaves-listed}
use Rattle.cil_expression.proofs.set_expression.SetExpression.holds.Goals as goal

pub returns-in-List : goal.returns-in-List
returns-in-List g c value answers =
    let names = c.in-List.names.items in
    let given = c.as_slice.ensures.value in
    let mine = given ∙ sym (leaves-listed names) ∙ ap (λ form. leaves (expr_by form)) (sym c.in-List.is) in
    c.holds_one.ensures value (λ l r among. answers l r (subst (λ m. Contains m l) mine among))
    ∙ ap (list_any value) given ∙ sym (holds-listed value names) ∙ ap (λ form. holds_by value (expr_by form)) (sym c.in-List.is)
