use Rattle.cil_resolve.proofs.Common.{rules, ℕ, ◌∙◌, length, refl, map, [], None, Some, sym, ap, get_or, leaves, leaves-mapped, permission_set_of, written_in}
use Rattle.std.proofs.lemmas.Option.{slice_get_past, slice_get_read}
use Rattle.cil_specs.specs.Rule.{PermissionSetStatement}
use Rattle.cil_resolve.proofs.NamedLemmas.{name-as, read-as}
use Rattle.cil_resolve.proofs.resolved.Resolved.permission_set_permission.Goals as goal

pub returns-in_err-permission : goal.returns-in_err-permission
returns-in_err-permission g c =
    let r = c.args.self.now in
    let x = c.in_ok-statement.statement.now in
    let found = c.in_ok-statement.ensures.lookup in
    let e = written_in x.permissions in
    let is = permission_set_of r.modules.items r.names.items in
    search rules
    ∙ sym (name-as r.names.items (λ (y : PermissionSetStatement). leaves y.permissions) (map is r.permission_sets.items) c.args.i c.args.k (is x) (leaves e) c.named_permissions.result.now None
    (read-as is r.permission_sets.items c.deref.result.now c.args.i x c.deref.ensures.value found.3.0 found.1) (leaves-mapped (λ (n : ℕ). get_or r.names.items n []) e) c.named_permissions.ensures
    (slice_get_past c.named_permissions.result.now c.args.k (search rules)))

pub returns : goal.returns
returns g c =
    let r = c.args.self.now in
    let x = c.in_ok-statement.statement.now in
    let found = c.in_ok-statement.ensures.lookup in
    let n = c.in_ok-permission.permission.now in
    let name = c.in_ok-permission.ensures.lookup in
    let e = written_in x.permissions in
    let is = permission_set_of r.modules.items r.names.items in
    ap Some c.name.ensures
    ∙ sym (name-as r.names.items (λ (y : PermissionSetStatement). leaves y.permissions) (map is r.permission_sets.items) c.args.i c.args.k (is x) (leaves e) c.named_permissions.result.now (Some n)
    (read-as is r.permission_sets.items c.deref.result.now c.args.i x c.deref.ensures.value found.3.0 found.1) (leaves-mapped (λ (n : ℕ). get_or r.names.items n []) e) c.named_permissions.ensures
    (slice_get_read c.named_permissions.result.now (length c.named_permissions.result.now) c.args.k n refl name.3.0 name.1))
