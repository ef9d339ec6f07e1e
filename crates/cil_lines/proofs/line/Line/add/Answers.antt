use Rattle.cil_lines.proofs.Common.{◌+◌, ◌∙◌, ap, refl, arith, with_items_is, hit}
use Rattle.cil_lines.proofs.LineLemmas.{same_now, add_now, OnErr-any}
use Rattle.cil_lines.proofs.StepLemmas.{same_below, raised_below}
use Rattle.cil_lines.proofs.line.Line.add.Goals as goal

pub returns-in_err-make_place-clause-err : goal.returns-in_err-make_place-clause-err
returns-in_err-make_place-clause-err g c =
    let h = c.self.inside.higher.items in
    OnErr-any c.from_residual.result (rw (← c.self.view_is) (same_now c.self.inside.lowest c.make_place.new.self h h c.make_place.ensures.bits (λ w b. refl)))

pub returns-in_err-make_room-clause-err : goal.returns-in_err-make_room-clause-err
returns-in_err-make_room-clause-err g c =
    OnErr-any c.from_residual-in_err-make_room.result
    (rw (← c.self.view_is) (same_now c.self.inside.lowest c.make_place.new.self c.self.inside.higher.items c.make_room.new.digits.items c.make_place.ensures.bits c.make_room.ensures.now))

pub returns-clause-ok : goal.returns-clause-ok
returns-clause-ok g c t =
    let d = c.make_place.new.self in
    let h = c.make_room.new.digits.items in
    let sum = rw c.deref_mut.ensures.value at c.add.ensures.sum in
    let others = rw c.deref_mut.ensures.value at c.add.ensures.others in
    let stored = with_items_is c.make_room.new.digits c.add.new.digits (c.add.ensures.len ∙ c.deref_mut.ensures.len) in
    let added = add_now d c.put.new.self h c.add.new.digits c.args.word c.args.mask c.bits-bits.result c.bits-bits.ensures c.put.ensures.here c.put.ensures.others sum others t in
    let before = same_now c.self.inside.lowest d c.self.inside.higher.items h c.make_place.ensures.bits c.make_room.ensures.now t in
    rw (← c.self.view_is, stored) (added ∙ ap (λ n. n + hit c.args.word c.args.mask t) before)

pub invariant_of-self : goal.invariant_of-self
invariant_of-self g c =
    let h = c.self.inside.higher.items in
    same_below c.self.inside.lowest c.make_place.new.self h h c.make_place.ensures.kept (λ w. omega arith) c.self.invariant c.make_place.ensures.bits (λ w b. refl)

pub invariant_of-self-in_err-make_room : goal.invariant_of-self-in_err-make_room
invariant_of-self-in_err-make_room g c =
    same_below c.self.inside.lowest c.make_place.new.self c.self.inside.higher.items c.make_room.new.digits.items c.make_place.ensures.kept c.make_room.ensures.limits c.self.invariant c.make_place.ensures.bits c.make_room.ensures.now

pub invariant_of-self-2 : goal.invariant_of-self-2
invariant_of-self-2 g c =
    let d = c.make_place.new.self in
    let h = c.make_room.new.digits.items in
    let sum = rw c.deref_mut.ensures.value at c.add.ensures.sum in
    let others = rw c.deref_mut.ensures.value at c.add.ensures.others in
    let limits = rw c.deref_mut.ensures.value at c.add.ensures.limits in
    let stored = with_items_is c.make_room.new.digits c.add.new.digits (c.add.ensures.len ∙ c.deref_mut.ensures.len) in
    let before = same_below c.self.inside.lowest d c.self.inside.higher.items h c.make_place.ensures.kept c.make_room.ensures.limits c.self.invariant c.make_place.ensures.bits c.make_room.ensures.now in
    rw stored (raised_below d c.put.new.self h c.add.new.digits c.put.ensures.kept limits c.args.word c.args.mask c.bits-bits.result c.bits-bits.ensures c.put.ensures.here c.put.ensures.others others before
    c.in_ok-make_place.ensures.place c.in_ok-make_room.ensures.room sum)
