use Rattle.cil_keyed_lines.proofs.Common.{◌≡◌, ◌∙◌, ap, arith, length, name_before, name_now, one_if, sym}
use Rattle.cil_keyed_lines.proofs.EndLemmas.{len_with, placed_with, was_ok}
use Rattle.cil_keyed_lines.proofs.keyed_lines.put_key.Goals as goal
use Rattle.cil_keyed_lines.proofs.keyed_lines.put_key.Goals.{else-is_new-via-then-is_new+else-is_err, else-is_new-via-else-is_new}

pub returns-clause-place : goal.returns-clause-place
returns-clause-place g c =
    placed_with c.args.keys.now.keys c.insert.new.keys.keys c.args.key c.in_ok-place.place c.in_ok-place.ensures.place.0 c.in_ok-place.ensures.place.1 c.in_ok-place.ensures.ok

pub returns-clause-len : goal.returns-clause-len
returns-clause-len g c =
    let new = c.in_ok-place.is_new in
    let grown = len_with c.args.keys.now.keys c.insert.new.keys.keys c.args.key new c.in_ok-place.ensures.new c.in_ok-place.ensures.ok in
    elim c.else-is_new.branch [
      | else-is_new-via-then-is_new+else-is_err w ↦
          let one : one_if new ≡ 1 = ap one_if w.if-is_new.true in
          let pushed = was_ok w.push.result (sym w.is_err.ensures.value ∙ w.if-is_err.false) w.push.ensures.ok in
          omega (arith, grown, one, pushed, ap (λ n. length n.named) w.names-is, c.requires.len)
      | else-is_new-via-else-is_new w ↦
          let none : one_if new ≡ 0 = ap one_if w.if-is_new.false in
          omega (arith, grown, none, ap (λ n. length n.named) w.names-is, c.requires.len)
    ]

pub returns-clause-now : goal.returns-clause-now
returns-clause-now g c = elim c.else-is_new.branch [
  | else-is_new-via-then-is_new+else-is_err w ↦ λ p. ap (λ n. name_now n p) w.names-is ∙ w.push.ensures.now p
  | else-is_new-via-else-is_new w ↦ λ p. ap (λ n. name_now n p) w.names-is
]

pub returns-clause-before : goal.returns-clause-before
returns-clause-before g c = elim c.else-is_new.branch [
  | else-is_new-via-then-is_new+else-is_err w ↦ λ p. ap (λ n. name_before n p) w.names-is ∙ w.push.ensures.before p
  | else-is_new-via-else-is_new w ↦ λ p. ap (λ n. name_before n p) w.names-is
]
