use Rattle.cil_session.proofs.Common.{refl, ap, sym, subst, err_from_is_err_and, edit_of, CanHold, IsOpen, held_edit, opened, Memory}
use Rattle.cil_session.proofs.BatchLemmas.{kept-size, not-added, no-memory, has-room, added}
use Rattle.cil_session.proofs.batch.Batch.add.Goals as goal

pub returns-in_err-check : goal.returns-in_err-check
returns-in_err-check g c =
    let made = err_from_is_err_and c.from_residual.result c.from_residual.ensures.1 in
    rw (made.1, made.2) (not-added c.args.self.now c.args.self.now (edit_of c.args.edit) _ refl (λ b found. c.in_err-check.ensures.err b (edit_of c.args.edit) found (sym c.held_bytes.ensures.bytes)))

pub returns-in_err-held : goal.returns-in_err-held
returns-in_err-held g c =
    let made = err_from_is_err_and c.from_residual-in_err-held.result c.from_residual-in_err-held.ensures.1 in
    rw (made.1, made.2)
    (not-added c.args.self.now c.args.self.now (edit_of c.args.edit) Memory refl (no-memory c.args.self.now (edit_of c.args.edit) c.held_bytes.result (sym c.held_bytes.ensures.bytes) c.in_ok-check.ensures.ok))

pub push-requires : goal.push-requires
push-requires g c =
    has-room c.self.inside.begin c.self.inside.fault c.self.inside.edits (held_edit c.in_ok-held.held) c.held_bytes.result (subst IsOpen (sym c.self.view_is) c.requires)
    (kept-size (edit_of c.args.edit) (held_edit c.in_ok-held.held) c.held_bytes.result (sym c.in_ok-held.ensures) (sym c.held_bytes.ensures.bytes)) (subst (λ o. CanHold o c.held_bytes.result) (sym c.self.view_is) c.in_ok-check.ensures.ok)

pub returns-in_err-push : goal.returns-in_err-push
returns-in_err-push g c =
    let made = err_from_is_err_and c.from_residual-in_err-push.result c.from_residual-in_err-push.ensures.1 in
    let can = subst (λ o. CanHold o c.held_bytes.result) (sym c.self.view_is) c.in_ok-check.ensures.ok in
    rw (made.1, made.2, ← c.self.view_is) (not-added _ _ (edit_of c.args.edit) Memory (ap (opened c.self.inside.begin c.self.inside.fault) c.in_err-push.ensures.err) (no-memory _ (edit_of c.args.edit) c.held_bytes.result (sym c.held_bytes.ensures.bytes) can))

pub returns : goal.returns
returns g c =
    rw (← c.self.view_is)
    (added c.self.inside.begin c.self.inside.fault c.self.inside.edits c.push.new.self (edit_of c.args.edit) (held_edit c.in_ok-held.held) c.held_bytes.result _ (sym c.in_ok-held.ensures)
    (kept-size (edit_of c.args.edit) (held_edit c.in_ok-held.held) c.held_bytes.result (sym c.in_ok-held.ensures) (sym c.held_bytes.ensures.bytes)) (subst (λ o. CanHold o c.held_bytes.result) (sym c.self.view_is) c.in_ok-check.ensures.ok)
    c.in_ok-push.ensures.ok)
