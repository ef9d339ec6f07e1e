use Rattle.cil_recorded.proofs.Common.{◌≡◌, ◌+◌, ℕ, suc, ap, subst, get_or, drop, drop-cons, bit_and, bit_xor, arith, sum_by_more, sum_by_push, Turn, Ascends, balance_of, change_key, turn_key, hit_at}
use Rattle.cil_recorded.proofs.LogLemmas.{hit_nothing}
use Rattle.cil_recorded.proofs.TurnLemmas.{alone, next, ascends-push, ascends-less, next-push, digits-high, digits-low}
use Rattle.cil_recorded.specs.declared.recorded_lines.changes.Change.{Change}
use Rattle.cil_recorded.proofs.recorded_lines.changes.split.Goals as goal
use Rattle.cil_recorded.proofs.recorded_lines.changes.split.Goals.{then-turn-ne0+in_ok-push, else-turn-ne0}

abbrev zeros : Turn
zeros = record { line = 0; word = 0; low = 0; high = 0 }

pub loop-turn-preserved : goal.loop-turn-preserved
loop-turn-preserved g c =
    let i = c.loop-turn.turn-index in
    let xs = c.args.turns.now in
    let x = get_or xs i zeros in
    let out = c.loop-turn.changes.items in
    let was = c.loop-turn.invariant in
    let more = λ (l t : ℕ). sum_by_more (λ s. balance_of s l t) xs i zeros c.loop-turn-test.true in
    let more-low = λ (l t : ℕ). sum_by_more (λ s. hit_at s.line s.word s.low l t) xs i zeros c.loop-turn-test.true in
    let more-alone = λ (l t : ℕ). sum_by_more (λ s. hit_at s.line s.word (alone s) l t) xs i zeros c.loop-turn-test.true in
    let one : suc i ≡ i + 1 = omega arith in
    let tail = rw (drop-cons xs i zeros c.loop-turn-test.true) at was.rest in
    let left = subst (λ k. Ascends turn_key (turn_key x + 1) (drop k xs)) one tail.1 in
    let low = λ (l t : ℕ). digits-low x.line x.word x.low x.high l t in
    let high = λ (l t : ℕ). digits-high x.line x.word x.low x.high l t in
    elim c.if-turn-ne0.branch [
      | then-turn-ne0+in_ok-push w ↦
          let ch : Change = record { line = x.line; word = x.word; appeared = bit_xor x.low (bit_and x.low x.high); gone = bit_and x.low x.high } in
          let come = λ (l t : ℕ). sum_by_push (λ (s : Change). hit_at s.line s.word s.appeared l t) out ch in
          let go = λ (l t : ℕ). sum_by_push (λ (s : Change). hit_at s.line s.word s.gone l t) out ch in
          rw (w.changes-is, w.in_ok-push.ensures.items) (record {
            up = ascends-push change_key 0 out ch was.up tail.0;
            rest = ascends-less turn_key _ (turn_key x + 1) (drop (i + 1) xs) (omega (arith, next-push change_key 0 out ch)) left;
            balance = λ l t. omega (arith, was.balance l t, come l t, go l t, more l t, more-alone l t, low l t, high l t);
            low = λ l t. omega (arith, was.low l t, come l t, go l t, more-low l t, low l t);
          })
      | else-turn-ne0 w ↦
          let none = λ (l t : ℕ). ap (λ m. hit_at x.line x.word m l t) w.if-turn-ne0.false in
          rw w.changes-is (record {
            up = was.up;
            rest = ascends-less turn_key (next change_key 0 out) (turn_key x + 1) (drop (i + 1) xs) (omega (arith, tail.0)) left;
            balance = λ l t. omega (arith, was.balance l t, more l t, more-alone l t, none l t, hit_nothing x.line x.word l t, low l t, high l t);
            low = λ l t. omega (arith, was.low l t, more-low l t, none l t, hit_nothing x.line x.word l t);
          })
    ]
