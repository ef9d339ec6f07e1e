use Rattle.cil_member_rows.proofs.Common.{◌≤◌, arith, length, refl, rows_in, rules}
use Rattle.cil_member_rows.proofs.HeldLemmas.{held_still}
use Rattle.cil_member_rows.proofs.MarkLemmas.{marked_still}
use Rattle.cil_member_rows.proofs.member_rows.MemberRows.add_row.Goals as goal

pub invariant_of-self : goal.invariant_of-self
invariant_of-self g c =
    let rows = c.self.inside.rows in
    let held = c.add_row.ensures in (
      held_still c.self.inside.held.items c.add_row.new.rows.items rows rows c.self.invariant.0
          (omega (arith, c.self.invariant.0.rows, held.rows)) (λ r. omega (arith, held.words r)) held.bits (λ r t. refl) (λ r t. refl),
      c.self.invariant.1,
    )

pub invariant_of-self-in_err-add_row-2 : goal.invariant_of-self-in_err-add_row-2
invariant_of-self-in_err-add_row-2 g c =
    let rows = c.self.inside.rows in
    let held = c.add_row.ensures in
    let marks = c.add_row-2.ensures in (
      held_still c.self.inside.held.items c.add_row.new.rows.items rows rows c.self.invariant.0
          (omega (arith, c.self.invariant.0.rows, held.rows)) (λ r. omega (arith, held.words r)) held.bits (λ r t. refl) (λ r t. refl),
      marked_still c.self.inside.turned.items c.add_row-2.new.marks.items rows rows c.self.invariant.1
          (omega (arith, c.self.invariant.1.rows, marks.rows)) (λ r t. refl) marks.marks (λ r t. refl) refl,
    )

pub invariant_of-self-2 : goal.invariant_of-self-2
invariant_of-self-2 g c =
    let old = c.self.inside.rows in
    let new = c.put_in.new.self in
    let held = c.in_ok-add_row.ensures in
    let marks = c.in_ok-add_row-2.ensures in
    let to = c.put_in.ensures in
    let held_rows : rows_in new ≤ length c.add_row.new.rows.items = search rules in
    let mark_rows : rows_in new ≤ length c.add_row-2.new.marks.items = search rules in (
      held_still c.self.inside.held.items c.add_row.new.rows.items old new c.self.invariant.0 held_rows (λ r. omega (arith, held.words r)) held.bits to.now to.before,
      marked_still c.self.inside.turned.items c.add_row-2.new.marks.items old new c.self.invariant.1 mark_rows to.before marks.marks to.now to.steps,
    )
