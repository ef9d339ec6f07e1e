use Rattle.std.proofs.Common.{◌≡◌, ◌≤◌, ◌+◌, ◌<◌, ◌++◌, suc, ◌∙◌, ap, sym, subst, length, take, drop, take-append-drop, append_assoc, arith}
use Rattle.std.proofs.lemmas.List.{take_all}
use Rattle.cil_lines.specs.Line.{HasRoom}
use Rattle.cil_lines.proofs.LineLemmas.{value-set_same, room-none, room-more}
use Rattle.cil_lines.proofs.PlaceLemmas.{limit-set}
use Rattle.cil_lines.proofs.higher.make_places.Goals as goal

pub returns-then-carry-eq0-clause-room : goal.returns-then-carry-eq0-clause-room
returns-then-carry-eq0-clause-room g c rest room =
    let ds = c.loop-i.digits in
    let i = c.loop-i.i in
    let parts = sym (append_assoc (take i ds) (drop i ds) rest) ∙ ap (λ l. l ++ rest) (take-append-drop i ds) in
    subst (λ l. HasRoom l c.args.word c.args.mask) parts (c.loop-i.invariant.room (drop i ds ++ rest) (rw c.if-carry-eq0.true (room-none (drop i ds) rest c.args.word room)))

pub returns-in_err-make_place-clause-now : goal.returns-in_err-make_place-clause-now
returns-in_err-make_place-clause-now g c w b =
    let ds = c.loop-i.digits in
    let within : c.loop-i.i < length ds = let same = c.loop-i.auto.digits in let test = c.loop-i-test.true in omega (arith, same, test) in
    value-set_same ds c.loop-i.i w b c.index-digits-i.result c.make_place.new.self within (c.make_place.ensures.bits w) ∙ c.loop-i.invariant.now w b

pub returns-in_err-make_place-clause-limits : goal.returns-in_err-make_place-clause-limits
returns-in_err-make_place-clause-limits g c w =
    let ds = c.loop-i.digits in
    let within : c.loop-i.i < length ds = let same = c.loop-i.auto.digits in let test = c.loop-i-test.true in omega (arith, same, test) in
    omega (arith, c.loop-i.invariant.limits w, limit-set ds c.loop-i.i w c.index-digits-i.result c.make_place.new.self within (c.make_place.ensures.kept w))

pub loop-i-preserved : goal.loop-i-preserved
loop-i-preserved g c =
    let ds = c.loop-i.digits in
    let i = c.loop-i.i in
    let d = c.index-digits-i.result in
    let e = c.make_place.new.self in
    let was = c.loop-i.invariant in
    let within : i < length ds = let same = c.loop-i.auto.digits in let test = c.loop-i-test.true in omega (arith, same, test) in
    let next : i + 1 ≡ suc i = omega arith in
    rw (c.bits-carry.ensures, next) (record {
      now = λ w b. value-set_same ds i w b d e within (c.in_ok-make_place.ensures.bits w) ∙ was.now w b;
      room = λ rest room. room-more ds rest i c.args.word c.loop-i.carry c.args.mask e within c.in_ok-make_place.ensures.place was.room room;
      limits = λ w. omega (arith, was.limits w, limit-set ds i w d e within (c.in_ok-make_place.ensures.kept w));
    })

pub returns-then-carry-eq0-clause-now : goal.returns-then-carry-eq0-clause-now
returns-then-carry-eq0-clause-now g c = c.loop-i.invariant.now

pub returns-then-carry-eq0-clause-limits : goal.returns-then-carry-eq0-clause-limits
returns-then-carry-eq0-clause-limits g c = c.loop-i.invariant.limits

pub returns-clause-room : goal.returns-clause-room
returns-clause-room g c rest room =
    let ds = c.loop-i.digits in
    let past : length ds ≤ c.loop-i.i = let same = c.loop-i.auto.digits in let test = c.loop-i-test.false in omega (arith, same, test) in
    subst (λ l. HasRoom (l ++ rest) c.args.word c.args.mask) (take_all c.loop-i.i ds past) (c.loop-i.invariant.room rest room)

pub returns-clause-now : goal.returns-clause-now
returns-clause-now g c = c.loop-i.invariant.now

pub returns-clause-limits : goal.returns-clause-limits
returns-clause-limits g c = c.loop-i.invariant.limits
