use Rattle.std.proofs.Common.{◌∙◌, ◌∷◌, [], arith}
use Rattle.std.proofs.lemmas.List.{with_items_is}
use Rattle.cil_lines.proofs.LineLemmas.{room-last, value-append}
use Rattle.cil_lines.proofs.PlaceLemmas.{limit-append}
use Rattle.cil_lines.proofs.higher.make_room.Goals as goal

pub returns-in_ok-push-clause-room : goal.returns-in_ok-push-clause-room
returns-in_ok-push-clause-room g c =
    let d = c.make_place.new.self in
    let none = c.in_ok-make_place.ensures.bits c.args.word ∙ c.new-digit.ensures c.args.word in
    let stored = with_items_is c.args.digits.now c.make_places.new.digits (c.make_places.ensures.len ∙ c.deref_mut.ensures.len) in
    rw (c.in_ok-push.ensures.items, c.reserve_exact.ensures.items, stored) (c.in_ok-carry.ensures.room (d ∷ []) (room-last d c.args.word c.in_ok-carry.carry c.in_ok-make_place.ensures.place none))

pub returns-in_ok-push-clause-now : goal.returns-in_ok-push-clause-now
returns-in_ok-push-clause-now g c w b =
    let d = c.make_place.new.self in
    let none = c.in_ok-make_place.ensures.bits w ∙ c.new-digit.ensures w in
    let stored = with_items_is c.args.digits.now c.make_places.new.digits (c.make_places.ensures.len ∙ c.deref_mut.ensures.len) in
    let before = rw c.deref_mut.ensures.value at (c.in_ok-carry.ensures.now w b) in
    rw (c.in_ok-push.ensures.items, c.reserve_exact.ensures.items, stored) (value-append c.make_places.new.digits d w b none ∙ before)

pub returns-in_ok-push-clause-limits : goal.returns-in_ok-push-clause-limits
returns-in_ok-push-clause-limits g c w =
    let d = c.make_place.new.self in
    let stored = with_items_is c.args.digits.now c.make_places.new.digits (c.make_places.ensures.len ∙ c.deref_mut.ensures.len) in
    let before = rw c.deref_mut.ensures.value at (c.in_ok-carry.ensures.limits w) in
    rw (c.in_ok-push.ensures.items, c.reserve_exact.ensures.items, stored) (omega (arith, before, limit-append c.make_places.new.digits d w))
