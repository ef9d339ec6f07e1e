use Rattle.cil_recorded.proofs.Common.{◌≡◌, ◌≤◌, ℕ, length, refl, ap, get_or, take_all, arith, get_or_default, sum_by_more, sum_by_push, Turn, balance_of, turn_key, key_of}
use Rattle.cil_recorded.proofs.LogLemmas.{hit_nothing}
use Rattle.cil_recorded.proofs.TurnLemmas.{ascends-push, next-push}
use Rattle.cil_recorded.proofs.turn.merge.Goals as goal
use Rattle.cil_recorded.proofs.turn.merge.Goals.{then-is_same_word, else-is_same_word+in_ok-push}

abbrev zeros : Turn
zeros = record { line = 0; word = 0; low = 0; high = 0 }

least : key_of 0 0 ≡ 0
unfolding key_of
least = refl

pub loop-turn-init : goal.loop-turn-init
loop-turn-init g c =
    rw c.in_ok-merged.ensures.items (record {
      up = tt;
      above = omega arith;
      low = λ k d from within. omega (arith, least);
      turned = λ l t. omega (arith, hit_nothing 0 0 l t);
    })

pub loop-turn-preserved : goal.loop-turn-preserved
loop-turn-preserved g c =
    let i = c.loop-turn.turn-index in
    let xs = c.args.turns.now in
    let x = get_or xs i zeros in
    let now = c.loop-turn.current in
    let ms = c.loop-turn.merged.items in
    let was = c.loop-turn.invariant in
    let low = was.low i zeros (omega arith) c.loop-turn-test.true in
    let more = λ (l t : ℕ). sum_by_more (λ s. balance_of s l t) xs i zeros c.loop-turn-test.true in
    elim c.if-is_same_word.branch [
      | then-is_same_word w ↦
          let key : turn_key w.both-current.result ≡ turn_key now = w.both-current.ensures.key in
          rw (w.merged-is, w.current-is) (record {
            up = was.up;
            above = omega (arith, was.above, key);
            low = λ k d le lt. let behind = was.low k d (omega arith) lt in omega (arith, behind, key);
            turned = λ l t. omega (arith, was.turned l t, more l t, w.both-current.ensures.sum l t);
          })
      | else-is_same_word+in_ok-push w ↦
          let other = c.is_same_word.ensures.other w.if-is_same_word.false in
          rw (w.merged-is, w.current-is, w.in_ok-push.ensures.items) (record {
            up = ascends-push turn_key 0 ms now was.up was.above;
            above = omega (arith, next-push turn_key 0 ms now, low, other);
            low = λ k d le lt. omega (arith, c.requires i k zeros (omega arith) lt, ap turn_key (get_or_default xs k zeros d lt));
            turned = λ l t. omega (arith, was.turned l t, more l t, sum_by_push (λ s. balance_of s l t) ms now);
          })
    ]

pub returns-clause-order : goal.returns-clause-order
returns-clause-order g c = rw c.in_ok-push-2.ensures.items (ascends-push turn_key 0 c.loop-turn.merged.items c.loop-turn.current c.loop-turn.invariant.up c.loop-turn.invariant.above)

pub returns-clause-turned : goal.returns-clause-turned
returns-clause-turned g c l t =
    let xs = c.args.turns.now in
    let past : length xs ≤ c.loop-turn.turn-index = c.loop-turn-test.false in
    let was = rw (take_all c.loop-turn.turn-index xs past) at (c.loop-turn.invariant.turned l t) in
    rw c.in_ok-push-2.ensures.items (omega (arith, was, sum_by_push (λ s. balance_of s l t) c.loop-turn.merged.items c.loop-turn.current))
