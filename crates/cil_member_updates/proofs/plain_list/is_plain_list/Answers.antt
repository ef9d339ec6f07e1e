use Rattle.cil_member_updates.proofs.Common.{◌∙◌, ap, sym, option_map, set_at}
use Rattle.cil_expression.proofs.ListedLemmas.{plain-mapped}
use Rattle.cil_expression.specs.Expression.{set_expr_in}
use Rattle.cil_parse.specs.Forms.{is_plain}
use Rattle.cil_resolve.proofs.EvaluateLemmas.{set-at}
use Rattle.cil_resolve.specs.Numbers.{element_of}
use Rattle.cil_member_updates.proofs.PlaceLemmas.{set-there}
use Rattle.cil_member_updates.proofs.plain_list.is_plain_list.Goals as goal

pub returns : goal.returns
returns g c =
    let r = c.args.reading.now.side.now.resolved.now in
    let place = c.args.reading.now.place in
    let x = c.unwrap.result.now in
    let at = set-at r place (set_at r place) (option_map (λ set. set.now) c.numbered_set-set.result) x c.numbered_set-set.ensures.set (ap (option_map (λ set. set.now)) c.unwrap.ensures) (set-there r place c.requires) in
    c.is_list.ensures ∙ sym (plain-mapped (element_of r.names.items) (set_expr_in x.expression)) ∙ ap (λ s. is_plain s.expr) at.named
