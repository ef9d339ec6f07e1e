use Rattle.cil_recorded.proofs.Common.{◌≡◌, ◌≤◌, ◌*◌, ℕ, length, ap, get_or, take_all, Bool, true, false, if◌then◌else◌, arith, sum_by_more, sum_by_push, Step, balance_of, hit_at, turned_by}
use Rattle.cil_recorded.proofs.LogLemmas.{hit_nothing}
use Rattle.cil_recorded.proofs.turn.turns_of.Goals as goal
use Rattle.cil_recorded.proofs.turn.turns_of.Goals.{then-step-ne0+in_ok-turn_of+in_ok-push, else-step-ne0}

abbrev none : Step
none = record { line = 0; word = 0; mask = 0; turned = 0; up = false; clears = false }

-- a step that turned nothing counts as nothing
turned-nothing : (s : Step) (l t : ℕ) → s.turned ≡ 0 → turned_by s l t ≡ 0
turned-nothing s l t is = by s.up
  where
    zero : hit_at s.line s.word s.turned l t ≡ 0
    zero = (let here = ap (λ m. hit_at s.line s.word m l t) is in omega (arith, here, hit_nothing s.line s.word l t))

    by : (up : Bool) → (if up then hit_at s.line s.word s.turned l t else 3 * hit_at s.line s.word s.turned l t) ≡ 0
    by true = zero
    by false = omega (arith, zero)

pub loop-step-preserved : goal.loop-step-preserved
loop-step-preserved g c =
    let i = c.loop-step.step-index in
    let log = c.args.log.now in
    let s = get_or log i none in
    let more = λ (l t : ℕ). sum_by_more (λ s. turned_by s l t) log i none c.loop-step-test.true in
    elim c.if-step-ne0.branch [
      | then-step-ne0+in_ok-turn_of+in_ok-push w ↦
          rw (w.turns-is, w.in_ok-push.ensures.items)
          (λ l t. omega (arith, c.loop-step.invariant l t, more l t, w.in_ok-turn_of.ensures l t, sum_by_push (λ s. balance_of s l t) c.loop-step.turns.items w.in_ok-turn_of.field-0))
      | else-step-ne0 w ↦ rw w.turns-is (λ l t. let nothing = turned-nothing s l t w.if-step-ne0.false in omega (arith, c.loop-step.invariant l t, more l t, nothing))
    ]

pub returns : goal.returns
returns g c l t =
    let past : length c.args.log.now ≤ c.loop-step.step-index = c.loop-step-test.false in
    let was = c.loop-step.invariant l t in
    rw (take_all c.loop-step.step-index c.args.log.now past) at was
