use Rattle.std.proofs.Common.{inl, inr, true≢false}
use Rattle.cil_expression.proofs.Common.{sym, ap, ◌∙◌}
use Rattle.cil_parse.specs.Forms.{is_plain}
use Rattle.cil_expression.specs.Expression.{expr_by}
use Rattle.cil_expression.proofs.ListedLemmas.{listed-plain}
use Rattle.cil_expression.proofs.set_expression.SetExpression.nodes.Goals as goal

pub unreachable-requires : goal.unreachable-requires
unreachable-requires g c =
    elim c.in-Listed.is [
      | inl one ↦ true≢false (ap (λ form. is_plain (expr_by form)) (sym one.1) ∙ c.requires)
      | inr list ↦ true≢false (sym (listed-plain list.0.items) ∙ ap (λ form. is_plain (expr_by form)) (sym list.1) ∙ c.requires)
    ]
