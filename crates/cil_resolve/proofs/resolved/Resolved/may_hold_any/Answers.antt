use Rattle.cil_resolve.proofs.Common.{◌∙◌, false, None, Some, option_map, ap, sym, set_expr_in, element_of}
use Rattle.cil_expression.specs.Holds.{holds_by}
use Rattle.cil_expression.proofs.HoldsLemmas.{holds-mapped}
use Rattle.cil_resolve.proofs.EvaluateLemmas.{set-at, set-there, no-set-at}
use Rattle.cil_resolve.proofs.resolved.Resolved.may_hold_any.Goals as goal

pub returns-in-Some-clause-value : goal.returns-in-Some-clause-value
returns-in-Some-clause-value g c s at =
    let r = c.args.self.now in
    let x = c.in-Some.set.now in
    let one = set-at r c.args.i s _ x c.at.ensures (ap (option_map (λ y. y.now)) c.in-Some.is) at in
    c.may_hold_any.ensures ∙ sym (holds-mapped (element_of r.names.items) (λ e. false) (set_expr_in x.expression)) ∙ ap (λ y. holds_by (λ e. false) y.expr) one.named

pub returns-in-None-clause-value : goal.returns-in-None-clause-value
returns-in-None-clause-value g c s at = absurd (no-set-at c.args.self.now c.args.i s (sym c.at.ensures ∙ ap (option_map (λ y. y.now)) c.in-None.is) at)

pub returns-in-Some-clause-none : goal.returns-in-Some-clause-none
returns-in-Some-clause-none g c none = absurd (set-there c.args.self.now c.args.i _ c.in-Some.set.now c.at.ensures (ap (option_map (λ y. y.now)) c.in-Some.is) none)
