use Rattle.cil_resolve.proofs.Common.{ℕ, ◌≡◌, ◌∙◌, [], length, Some, option_map, sym, ap, get_or, length-map, leaves, leaves-mapped, place_of, permission_set_of, written_in}
use Rattle.cil_resolve.specs.Views.{permission_set_head}
use Rattle.cil_resolve.proofs.NamedLemmas.{read-as}
use Rattle.cil_resolve.proofs.resolved.Resolved.permission_set_at.Goals as goal

pub returns : goal.returns
returns g c =
    let r = c.args.self.now in
    let x = c.in_ok-statement.statement.now in
    let f = λ (p : ℕ). get_or r.names.items p [] in
    let is = permission_set_of r.modules.items r.names.items in
    let found = c.in_ok-statement.ensures.lookup in
    let e = written_in x.permissions in
    let long = ap length c.named_permissions.ensures ∙ sym (length-map (leaves e) f) ∙ ap length (sym (leaves-mapped f e)) in
    let head : _ ≡ permission_set_head (is x) = λ k. record {
      module_name = c.module.ensures k;
      at = place_of x.at;
      set = c.name.ensures k;
      the_class = c.name-2.ensures k;
      permissions = long k;
    } in
    ap Some head ∙ sym (ap (option_map permission_set_head) (read-as is r.permission_sets.items c.deref.result.now c.args.i x c.deref.ensures.value found.3.0 found.1))
