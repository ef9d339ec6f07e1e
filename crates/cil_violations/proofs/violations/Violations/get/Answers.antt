use Rattle.cil_violations.proofs.Common.{◌≡◌, ◌∙◌, length, Some, slice_get, refl, ap, sym, ltb-true, slice_get-map, slice_get_read, violation_by}
use Rattle.std.specs.Option.{option_map}
use Rattle.std.specs.Rc.{rc_value}
use Rattle.cil_violations.specs.Views.{violation_head}
use Rattle.cil_violations.proofs.violations.Violations.get.Goals as goal

pub returns : goal.returns
returns g c =
    let rows = c.self.inside.rows.items in
    let lists = c.self.inside.permissions.0 in
    let row = c.in_ok-row.row.now in
    let i = c.args.i in
    let by = violation_by (rc_value c.self.inside.resolved) lists in
    let found = c.in_ok-row.ensures.lookup in
    let listed = c.deref.ensures.value in
    let read : slice_get c.deref.result.now i ≡ Some row =
    slice_get_read c.deref.result.now (length c.deref.result.now) i row refl (ltb-true i (length c.deref.result.now) (sym found.0)) found.1 in
    let at : slice_get rows i ≡ Some row = sym (ap (λ l. slice_get l i) listed) ∙ read in
    let seen : slice_get c.args.self.now i ≡ Some (by row) = ap (λ l. slice_get l i) (sym c.self.view_is) ∙ slice_get-map by rows i ∙ ap (option_map by) at in
    ap Some c.of.ensures ∙ (λ k. Some (violation_head (violation_by (c.deref-2.ensures k) lists row))) ∙ sym (ap (option_map violation_head) seen)
