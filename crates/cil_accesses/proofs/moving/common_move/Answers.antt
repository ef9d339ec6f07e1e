use Rattle.std.proofs.Common.{◌∙◌, ◌+◌, ◌*◌, ap}
use Rattle.cil_accesses.proofs.NextBits.{move-next, move-first, move-all, move-none}
use Rattle.cil_accesses.proofs.moving.common_move.Goals as goal

pub returns-in_default : goal.returns-in_default
returns-in_default c = move-none c.args.numbers.now c.args.chunk.now c.in_default.ensures

pub loop-bit-init : goal.loop-bit-init
loop-bit-init c = move-first c.args.numbers.now c.args.chunk.now c.in_ok-up.up c.in-Some.first c.in-Some.ensures c.in_ok-up.ensures

pub loop-bit-preserved : goal.loop-bit-preserved
loop-bit-preserved c =
    let target = 64 * c.args.chunk.now.word + c.in-Some-next_bit.bit in
    move-next c.args.numbers.now c.args.chunk.now c.in_ok-up.up c.loop-bit.from c.in-Some-next_bit.bit c.in-Some-next_bit.ensures c.loop-bit.invariant
    (c.in_ok-move_at.ensures ∙ ap (λ up. target + up) c.if-branch-up.false)

pub returns : goal.returns
returns c = move-all c.args.numbers.now c.args.chunk.now c.in_ok-up.up c.loop-bit.from c.in_default-next_bit.ensures c.loop-bit.invariant
