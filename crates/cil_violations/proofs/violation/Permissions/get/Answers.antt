use Rattle.cil_violations.proofs.Common.{◌≡◌, ◌∙◌, ◌+◌, ◌∷◌, cond, drop, get_or, slice_get, Some, ap, sym, drop_more, drop_all, slice_get-map, name_in, shared}
use Rattle.std.specs.Prelude.{option_map}
use Rattle.cil_violations.proofs.violation.Permissions.get.Goals as goal

pub returns-then-left-eq0 : goal.returns-then-left-eq0
returns-then-left-eq0 g c =
    let r = c.self.inside.resolved.now in
    let never = c.self.inside.never.now in
    let others = c.self.inside.allowed.now in
    let k = c.loop-permission.permission-index in
    let x = get_or never k (record { class = 0; permission = 0 }) in
    let later = shared (drop (k + 1) never) others in
    let first : slice_get (shared (drop k never) others) 0 ≡ Some x =
    ap (λ l. slice_get (shared l others) 0) (drop_more never k (record { class = 0; permission = 0 }) c.loop-permission-test.true) ∙ ap (λ b. slice_get (cond b (x ∷ later) later) 0) (sym c.is_among.ensures ∙ c.if-not-is_among.false) in
    ap Some c.name.ensures
    ∙ ap (option_map (λ p. name_in r p.permission)) (sym first ∙ ap (slice_get (shared (drop k never) others)) (sym c.if-left-eq0.true) ∙ c.loop-permission.invariant)
    ∙ sym (slice_get-map (λ p. name_in r p.permission) (shared never others) c.args.i) ∙ ap (λ l. slice_get l c.args.i) c.self.view_is

pub returns : goal.returns
returns g c =
    let r = c.self.inside.resolved.now in
    let never = c.self.inside.never.now in
    let others = c.self.inside.allowed.now in
    let past = drop_all c.loop-permission.permission-index never c.loop-permission-test.false in
    ap (option_map (λ p. name_in r p.permission)) (ap (λ l. slice_get (shared l others) c.loop-permission.left) (sym past) ∙ c.loop-permission.invariant)
    ∙ sym (slice_get-map (λ p. name_in r p.permission) (shared never others) c.args.i) ∙ ap (λ l. slice_get l c.args.i) c.self.view_is
