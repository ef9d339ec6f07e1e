use Rattle.cil_member_rows.proofs.Common.{◌≡◌, ℕ, ◌+◌, ◌^◌, ◌<◌, bit_and, arith, rules, w64, bit_not, hit_at, refl, count_before, count_now}
use Rattle.cil_member_rows.proofs.HeldLemmas.{held_shifted, held_still}
use Rattle.cil_member_rows.proofs.MarkLemmas.{marked_shifted, marked_still}
use Rattle.cil_member_rows.proofs.ShiftLemmas.{hit_without, hit_at_without}
use Rattle.cil_member_rows.proofs.member_rows.MemberRows.shift.Goals as goal

pub lower-requires-clause-above : goal.lower-requires-clause-above
lower-requires-clause-above g c t =
    let fits : c.args.is < 2 ^ 64 = search rules in
    let above = rw (← c.self.view_is) at c.requires.above in
    omega (arith, hit_without c.args.word c.args.was c.args.is t fits, above t, c.make_room.ensures.now c.args.row t)

pub invariant_of-self-2 : goal.invariant_of-self-2
invariant_of-self-2 g c =
    let old = c.self.inside.rows in
    let room = c.in_ok-make_room.ensures in
    let gone = bit_and c.args.was (bit_not w64 c.args.is) in
    let come = bit_and c.args.is (bit_not w64 c.args.was) in
    let fell : (r t : ℕ) → count_now c.lower.new.rows r t + hit_at c.args.row c.args.word gone r t ≡ count_now old r t = λ r t. omega (arith, c.lower.ensures.now r t, room.now r t) in
    let before : (r t : ℕ) → count_before c.raise.new.rows r t ≡ count_before old r t = λ r t. omega (arith, c.raise.ensures.before r t, c.lower.ensures.before r t, room.before r t) in (
      held_shifted c.self.inside.held.items c.make_room.new.held.items old c.raise.new.rows c.self.invariant.0 c.args.row c.args.word
          gone come (count_now c.lower.new.rows)
          (search rules) room.words room.bits room.reach fell c.raise.ensures.now before,
      marked_shifted c.self.inside.turned.items c.mark.new.marks.items old c.raise.new.rows c.self.invariant.1 (search rules) before c.args.row c.args.word
          gone come (count_now c.lower.new.rows) c.is_step.result c.is_step.ensures
          c.mark.ensures.kept c.mark.ensures.here c.mark.ensures.some c.mark.ensures.others fell c.raise.ensures.now
          (omega (arith, room.steps, c.lower.ensures.steps, c.raise.ensures.steps))
          (λ some. omega (arith, some, c.lower.ensures.steps, c.raise.ensures.steps)),
    )

pub returns-clause-ok : goal.returns-clause-ok
returns-clause-ok g c r t =
    let is : c.args.is < 2 ^ 64 = search rules in
    let was : c.args.was < 2 ^ 64 = search rules in
    rw (← c.self.view_is)
    (omega (
      arith,
      hit_at_without c.args.row c.args.word c.args.was c.args.is r t is,
      hit_at_without c.args.row c.args.word c.args.is c.args.was r t was,
      c.make_room.ensures.now r t,
      c.lower.ensures.now r t,
      c.raise.ensures.now r t,
    ))

pub invariant_of-self : goal.invariant_of-self
invariant_of-self g c =
    let rows = c.self.inside.rows in
    let room = c.make_room.ensures in (
      held_still c.self.inside.held.items c.make_room.new.held.items rows c.make_room.new.rows c.self.invariant.0
          (omega (arith, c.self.invariant.0.rows, room.rows, room.lines)) room.words room.bits room.now room.before,
      marked_still c.self.inside.turned.items c.self.inside.turned.items rows c.make_room.new.rows c.self.invariant.1
          (omega (arith, c.self.invariant.1.rows, room.lines)) room.before (λ r. refl) room.now room.steps,
    )
