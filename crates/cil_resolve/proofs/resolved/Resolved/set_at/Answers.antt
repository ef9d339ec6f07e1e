use Rattle.cil_resolve.proofs.Common.{◌≡◌, ◌∙◌, length, Some, option_map, sym, ap, length-map, slice_get-map, leaves, leaves-mapped, place_of, set_expr_in, element_of, set_of, sets_at}
use Rattle.cil_resolve.specs.Views.{set_head}
use Rattle.cil_resolve.proofs.resolved.Resolved.set_at.Goals as goal

pub returns : goal.returns
returns g c =
    let r = c.args.self.now in
    let x = c.in_ok-set.set.now in
    let f = element_of r.names.items in
    let there = sym c.at.ensures ∙ ap (option_map (λ y. y.now)) c.in_ok-set.was in
    let names = ap length c.names.ensures ∙ sym (length-map (leaves (set_expr_in x.expression)) f) ∙ ap length (sym (leaves-mapped f (set_expr_in x.expression))) in
    let head : _ ≡ set_head (set_of r.modules.items r.names.items x) = λ k. record { module_name = c.module.ensures k; at = place_of x.at; attribute = c.name.ensures k; names = names k } in
    ap Some head ∙ sym (ap (option_map set_head) (slice_get-map (set_of r.modules.items r.names.items) (sets_at r.sets.sets.items r.sets.order.items) c.args.i ∙ ap (option_map (set_of r.modules.items r.names.items)) there))
