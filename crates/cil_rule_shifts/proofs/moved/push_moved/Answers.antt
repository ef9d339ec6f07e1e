use Rattle.cil_rule_shifts.proofs.Common.{◌≡◌, ◌+◌, ◌<◌, ◌^◌, ◌/◌, ◌==◌, ◌&&◌, not, arith, bit_and, bit_not, hit, one_if, w64, ℕ}
use Rattle.std.specs.Int.Bits.{and_lt}
use Rattle.cil_rule_shifts.proofs.MoveLemmas.{hit-without, moves-more, moves-skip, same-word}
use Rattle.cil_rule_shifts.proofs.moved.push_moved.Goals as goal

pub returns-in_ok-push : goal.returns-in_ok-push
returns-in_ok-push g c was is had has so_far =
    let word = c.args.word in
    let a = c.args.before in
    let b = c.args.now in
    let gone = bit_and a (bit_not w64 b) in
    let come = bit_and b (bit_not w64 a) in
    let goes : (t : ℕ) → hit word gone t ≡ one_if ((t / 64 == word) && (was t && not (is t))) = λ t. hit-without word a b t (was t) (is t) c.ranges.now.fits (had t) (has t) in
    let comes : (t : ℕ) → hit word come t ≡ one_if ((t / 64 == word) && (is t && not (was t))) = λ t. hit-without word b a t (is t) (was t) c.ranges.before.fits (has t) (had t) in
    let gone_fits : gone < 2 ^ 64 = and_lt 64 a (bit_not w64 b) c.ranges.before.fits (omega arith) in
    let come_fits : come < 2 ^ 64 = and_lt 64 b (bit_not w64 a) c.ranges.now.fits (omega arith) in
    rw c.in_ok-push.ensures.items (moves-more was is word c.args.moved.now.items so_far gone come c.requires gone_fits come_fits goes comes)

pub returns-else-before-now : goal.returns-else-before-now
returns-else-before-now g c was is had has so_far =
    let word = c.args.word in
    moves-skip was is word (word + 1) c.args.moved.now.items so_far (omega arith)
    (λ t on high. same-word word c.args.before c.args.now t (was t) (is t) c.if-before-now.false (had t) (has t) (omega (arith, on, high)))
