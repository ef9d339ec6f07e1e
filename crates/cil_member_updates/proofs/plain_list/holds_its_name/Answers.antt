use Rattle.cil_member_updates.proofs.Common.{◌≡◌, ◌∙◌, ap, sym, true, length, length-map, option_map, set_at, set_of}
use Rattle.cil_expression.proofs.HoldsLemmas.{holds-mapped}
use Rattle.cil_expression.specs.Expression.{set_expr_in}
use Rattle.cil_resolve.proofs.EvaluateLemmas.{set-at}
use Rattle.cil_resolve.specs.Numbers.{element_of}
use Rattle.cil_specs.specs.Expr.{holds_by}
use Rattle.cil_member_updates.proofs.PlaceLemmas.{set-there}
use Rattle.cil_member_updates.proofs.PlainLemmas.{one-joins}
use Rattle.cil_member_updates.proofs.plain_list.holds_its_name.Goals as goal

pub returns : goal.returns
returns g c is =
    let r = c.args.reading.now.side.now.resolved.now in
    let place = c.args.reading.now.place in
    let s = set_of c.args.reading.now in
    let x = c.unwrap.result.now in
    let e = set_expr_in x.expression in
    let there = set-there r place c.requires in
    let at = set-at r place (set_at r place) (option_map (λ set. set.now) c.numbered_set.result) x c.numbered_set.ensures.set (ap (option_map (λ set. set.now)) c.unwrap.ensures) there in
    let all : holds_by (λ l. true) s.expr ≡ true = sym (ap (λ s. holds_by (λ l. true) s.expr) at.named) ∙ holds-mapped (element_of r.names.items) (λ l. true) e ∙ sym (c.holds.ensures (λ l. true) (λ l answer there told. told.1)) ∙ is in
    one-joins s.expr (sym (ap length (c.set_names-names.ensures.names s there)) ∙ length-map c.set_names-names.result.now (element_of r.names.items) ∙ c.if-names-ne1.false)
    (sym (c.may_hold_any.ensures.value s there) ∙ c.if-may_hold_any.false) all
