use Rattle.cil_resolve.proofs.Common.{◌∙◌, Some, [], ap, arith, length, sym, slice_get-get_or, slice_get_past}
use Rattle.std.specs.Rc.{rc_value}
use Rattle.cil_resolve.proofs.KnownLemmas.{known-of, known-other, known-unset}
use Rattle.cil_resolve.proofs.known_permissions.KnownPermissions.get.Goals as goal

pub returns-then-self-at : goal.returns-then-self-at
returns-then-self-at g c = sym (known-other c.args.self.now c.args.at.«module» c.args.at.list c.if-self-at.true)

pub returns-in_default : goal.returns-in_default
returns-in_default g c = sym (known-unset c.args.self.now c.args.at.«module» c.args.at.list c.if-self-at.false c.in_default.is)

pub returns-then-at-len : goal.returns-then-at-len
returns-then-at-len g c =
    let at = c.args.at in
    let long = c.len.ensures ∙ ap (λ l. length l.0) c.deref.ensures in
    let past = c.if-at-len.true in
    sym (known-of c.args.self.now at.«module» at.list c.in-Some.lists c.if-self-at.false c.in-Some.is ∙ slice_get_past (rc_value c.in-Some.lists).0 at.list (omega (arith, long, past)))

pub of_list-requires : goal.of_list-requires
of_list-requires g c =
    let long = c.len.ensures ∙ ap (λ l. length l.0) c.deref.ensures in
    let low = c.if-at-len.false in
    omega (arith, long, low)

pub returns : goal.returns
returns g c =
    let at = c.args.at in
    let lists = (rc_value c.in-Some.lists).0 in
    let long = c.len.ensures ∙ ap (λ l. length l.0) c.deref.ensures in
    let low = c.if-at-len.false in
    ap Some c.in_ok-of_list.ensures ∙ sym (known-of c.args.self.now at.«module» at.list c.in-Some.lists c.if-self-at.false c.in-Some.is ∙ slice_get-get_or lists at.list [] (omega (arith, long, low)))
