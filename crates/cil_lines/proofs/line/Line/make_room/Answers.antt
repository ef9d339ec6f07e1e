use Rattle.std.proofs.Common.{refl, arith}
use Rattle.cil_lines.proofs.DigitLemmas.{OnOk-map}
use Rattle.cil_lines.proofs.LineLemmas.{same_now}
use Rattle.cil_lines.proofs.StepLemmas.{same_below, limits_now, room_now}
use Rattle.cil_lines.proofs.line.Line.make_room.Goals as goal

pub invariant_of-self : goal.invariant_of-self
invariant_of-self g c =
    let h = c.self.inside.higher.items in
    same_below c.self.inside.lowest c.make_place.new.self h h c.make_place.ensures.kept (λ w. omega arith) c.self.invariant c.make_place.ensures.bits (λ w b. refl)

pub returns-in_err-make_place-clause-now : goal.returns-in_err-make_place-clause-now
returns-in_err-make_place-clause-now g c =
    let h = c.self.inside.higher.items in
    rw (← c.self.view_is) (same_now c.self.inside.lowest c.make_place.new.self h h c.make_place.ensures.bits (λ w b. refl))

pub returns-in_err-make_place-clause-limits : goal.returns-in_err-make_place-clause-limits
returns-in_err-make_place-clause-limits g c =
    let h = c.self.inside.higher.items in
    rw (← c.self.view_is) (limits_now c.self.inside.lowest c.make_place.new.self h h c.make_place.ensures.kept (λ w. omega arith))

pub invariant_of-self-2 : goal.invariant_of-self-2
invariant_of-self-2 g c =
    same_below c.self.inside.lowest c.make_place.new.self c.self.inside.higher.items c.make_room.new.digits.items c.make_place.ensures.kept c.make_room.ensures.limits c.self.invariant c.make_place.ensures.bits c.make_room.ensures.now

pub returns-clause-room : goal.returns-clause-room
returns-clause-room g c =
    OnOk-map c.make_room.result
    (room_now c.make_place.new.self c.make_room.new.digits.items c.args.word c.args.mask c.bits.result (invariant_of-self-2 g c) c.in_ok-make_place.ensures.place c.bits.ensures)
    c.make_room.ensures.room

pub returns-clause-now : goal.returns-clause-now
returns-clause-now g c =
    rw (← c.self.view_is) (same_now c.self.inside.lowest c.make_place.new.self c.self.inside.higher.items c.make_room.new.digits.items c.make_place.ensures.bits c.make_room.ensures.now)

pub returns-clause-limits : goal.returns-clause-limits
returns-clause-limits g c =
    rw (← c.self.view_is) (limits_now c.self.inside.lowest c.make_place.new.self c.self.inside.higher.items c.make_room.new.digits.items c.make_place.ensures.kept c.make_room.ensures.limits)
