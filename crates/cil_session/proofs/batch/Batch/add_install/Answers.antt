use Rattle.cil_session.proofs.Common.{◌≡◌, ◌∙◌, refl, ap, sym, subst, arith, err_from_is_err_and, held_bytes, CanHold, IsOpen, held_edit, opened, Memory}
use Rattle.cil_session.proofs.BatchLemmas.{kept-size, install-size, not-added, no-memory, has-room, added}
use Rattle.cil_session.proofs.batch.Batch.add_install.Goals as goal

pub returns-in_err-check : goal.returns-in_err-check
returns-in_err-check g c edit is =
    let size : held_bytes edit ≡ c.len.result = omega (arith, install-size edit _ _ _ is, c.len.ensures, c.requires.held) in
    let made = err_from_is_err_and c.from_residual.result c.from_residual.ensures.1 in
    rw (made.1, made.2) (not-added c.args.self.now c.args.self.now edit _ refl (λ b found. c.in_err-check.ensures.err b edit found size))

pub returns-in_err-held : goal.returns-in_err-held
returns-in_err-held g c edit is =
    let size : held_bytes edit ≡ c.len.result = omega (arith, install-size edit _ _ _ is, c.len.ensures, c.requires.held) in
    let made = err_from_is_err_and c.from_residual-in_err-held.result c.from_residual-in_err-held.ensures.1 in
    rw (made.1, made.2) (not-added c.args.self.now c.args.self.now edit Memory refl (no-memory c.args.self.now edit c.len.result size c.in_ok-check.ensures.ok))

pub push-requires : goal.push-requires
push-requires g c =
    let size : held_bytes (held_edit c.in_ok-held.held) ≡ c.len.result = rw (c.in_ok-held.ensures) (omega (arith, c.len.ensures, c.requires.held)) in
    has-room c.self.inside.begin c.self.inside.fault c.self.inside.edits (held_edit c.in_ok-held.held) c.len.result (subst IsOpen (sym c.self.view_is) c.requires.open) size (subst (λ o. CanHold o c.len.result) (sym c.self.view_is) c.in_ok-check.ensures.ok)

pub returns-in_err-push : goal.returns-in_err-push
returns-in_err-push g c edit is =
    let size : held_bytes edit ≡ c.len.result = omega (arith, install-size edit _ _ _ is, c.len.ensures, c.requires.held) in
    let made = err_from_is_err_and c.from_residual-in_err-push.result c.from_residual-in_err-push.ensures.1 in
    let can = subst (λ o. CanHold o c.len.result) (sym c.self.view_is) c.in_ok-check.ensures.ok in
    rw (made.1, made.2, ← c.self.view_is) (not-added _ _ edit Memory (ap (opened c.self.inside.begin c.self.inside.fault) c.in_err-push.ensures.err) (no-memory _ edit c.len.result size can))

pub returns : goal.returns
returns g c edit is =
    let size : held_bytes edit ≡ c.len.result = omega (arith, install-size edit _ _ _ is, c.len.ensures, c.requires.held) in
    let held_is = is ∙ sym c.in_ok-held.ensures in
    rw (← c.self.view_is)
    (added c.self.inside.begin c.self.inside.fault c.self.inside.edits c.push.new.self edit (held_edit c.in_ok-held.held) c.len.result _ held_is (kept-size edit (held_edit c.in_ok-held.held) c.len.result held_is size)
    (subst (λ o. CanHold o c.len.result) (sym c.self.view_is) c.in_ok-check.ensures.ok) c.in_ok-push.ensures.ok)
