use Rattle.cil_rule_shifts.proofs.Common.{[], ◌≡◌, ◌≢◌, ◌+◌, ◌<◌, ◌^◌, AreMovesBelow, arith, bit_and, bit_not, not, ◌&&◌, ◌==◌, ◌/◌, hit, one_if, takes, w64, ℕ}
use Rattle.std.specs.Int.Bits.{and_lt}
use Rattle.cil_rule_shifts.proofs.MoveLemmas.{hit-without, moves-done, moves-more, moves-new, moves-skip, neither-moves}
use Rattle.cil_rule_shifts.proofs.moved.only_move.Goals as goal

pub returns : goal.returns
returns g c =
    let was = takes c.args.was.now c.args.source in
    let is = takes c.args.is.now c.args.source in
    let word = c.in_ok-word.word in
    let a = c.word-before.result in
    let b = c.word-now.result in
    let gone = bit_and a (bit_not w64 b) in
    let come = bit_and b (bit_not w64 a) in
    let goes : (t : ℕ) → hit word gone t ≡ one_if ((t / 64 == word) && (was t && not (is t))) = λ t. hit-without word a b t (was t) (is t) c.word-now.type_inv (c.word-before.ensures t) (c.word-now.ensures t) in
    let comes : (t : ℕ) → hit word come t ≡ one_if ((t / 64 == word) && (is t && not (was t))) = λ t. hit-without word b a t (is t) (was t) c.word-before.type_inv (c.word-now.ensures t) (c.word-before.ensures t) in
    let gone_fits : gone < 2 ^ 64 = and_lt 64 a (bit_not w64 b) c.word-before.type_inv (omega arith) in
    let come_fits : come < 2 ^ 64 = and_lt 64 b (bit_not w64 a) c.word-now.type_inv (omega arith) in
    let others = c.in_ok-word.ensures.others c.args.source in
    let quiet : (t : ℕ) → t / 64 ≢ word → was t ≡ is t = λ t other. neither-moves was is t (others t other) in
    let before : AreMovesBelow was is word [] = moves-skip was is 0 word [] (moves-new was is) (omega arith) (λ t _ less. quiet t (λ same. omega (arith, same, less))) in
    moves-done was is (word + 1) _ (moves-more was is word [] before gone come c.in_ok-word.ensures.short gone_fits come_fits goes comes) (λ t past. others t (λ same. omega (arith, same, past)))
