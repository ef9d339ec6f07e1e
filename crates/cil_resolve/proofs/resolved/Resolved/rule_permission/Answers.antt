use Rattle.cil_resolve.proofs.Common.{rules, ◌∙◌, length, refl, map, None, Some, sym, ap, Rule}
use Rattle.std.proofs.lemmas.Option.{slice_get_past, slice_get_read}
use Rattle.cil_resolve.specs.Numbers.{named_numbers, rule_of}
use Rattle.cil_resolve.specs.Views.{named_in}
use Rattle.cil_resolve.proofs.NamedLemmas.{name-as, named-numbers, read-as}
use Rattle.cil_resolve.proofs.resolved.Resolved.rule_permission.Goals as goal

pub returns-in_err-permission : goal.returns-in_err-permission
returns-in_err-permission g c =
    let r = c.args.self.now in
    let x = c.in_ok-rule.rule.now in
    let found = c.in_ok-rule.ensures.lookup in
    let is = rule_of r.modules.items r.names.items in
    search rules
    ∙ sym (name-as r.names.items (λ (y : Rule). named_in y.permissions) (map is r.rules.items) c.args.i c.args.k (is x) (named_numbers x.permissions) c.named_permissions.result.now None
    (read-as is r.rules.items c.deref.result.now c.args.i x c.deref.ensures.value found.3.0 found.1) (named-numbers r.names.items x.permissions) c.named_permissions.ensures
    (slice_get_past c.named_permissions.result.now c.args.k (search rules)))

pub returns : goal.returns
returns g c =
    let r = c.args.self.now in
    let x = c.in_ok-rule.rule.now in
    let found = c.in_ok-rule.ensures.lookup in
    let n = c.in_ok-permission.permission.now in
    let name = c.in_ok-permission.ensures.lookup in
    let is = rule_of r.modules.items r.names.items in
    ap Some c.name.ensures
    ∙ sym (name-as r.names.items (λ (y : Rule). named_in y.permissions) (map is r.rules.items) c.args.i c.args.k (is x) (named_numbers x.permissions) c.named_permissions.result.now (Some n)
    (read-as is r.rules.items c.deref.result.now c.args.i x c.deref.ensures.value found.3.0 found.1) (named-numbers r.names.items x.permissions) c.named_permissions.ensures
    (slice_get_read c.named_permissions.result.now (length c.named_permissions.result.now) c.args.k n refl name.3.0 name.1))
