use Rattle.cil_resolve.proofs.Common.{ℕ, ◌∙◌, [], length, sym, ap, get_or, length-map, leaves, leaves-mapped, resolved_permissions_of, written_in}
use Rattle.cil_resolve.specs.Views.{class_head_of, permissions_head}
use Rattle.cil_resolve.proofs.resolved.Resolved.permissions.Goals as goal

pub returns-in-OfClass : goal.returns-in-OfClass
returns-in-OfClass g c =
    let names = c.args.self.now.names.items in
    let f = λ (p : ℕ). get_or names p [] in
    let p = c.in-OfClass.of_class in
    let long = ap length c.named_permissions.ensures ∙ sym (length-map (leaves (written_in p)) f) ∙ ap length (sym (leaves-mapped f (written_in p))) in
    (λ k. class_head_of (c.name.ensures k) (long k)) ∙ ap (λ x. permissions_head (resolved_permissions_of names x)) (sym c.in-OfClass.is)
