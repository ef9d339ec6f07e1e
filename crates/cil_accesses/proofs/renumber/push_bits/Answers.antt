use Rattle.cil_accesses.proofs.Common.{◌+◌, ◌*◌, ◌∙◌, sym, ap, subst, arith, on_ok_weaker, bit_at, renumbered}
use Rattle.std.proofs.Common.{eqb-true}
use Rattle.cil_accesses.proofs.Members.{access-of}
use Rattle.cil_accesses.proofs.NextBits.{first-held, IsHeld, last-added, other-word, same-word}
use Rattle.cil_accesses.proofs.Shifts.{target-within}
use Rattle.cil_accesses.proofs.renumber.push_bits.Goals.{then-word-held, else-word-held+in_ok-push_chunk}
use Rattle.cil_accesses.proofs.renumber.push_bits.Goals as goal

pub renumbered-requires : goal.renumbered-requires
renumbered-requires g c =
    c.requires.within c.access.result (access-of c.args.chunk.now c.in-Some.first c.access.result c.in-Some.ensures.within c.in-Some.ensures.set (sym c.access.ensures))

pub loop-bit-init : goal.loop-bit-init
loop-bit-init g c =
    let is = c.renumbered.ensures ∙ ap (renumbered c.args.numbers.now) c.access.ensures in
    first-held c.args.numbers.now c.args.chunk.now c.args.made.now.items c.of-held.result c.in-Some.first c.of-held.ensures.word c.requires.words (λ a. (λ of. (c.of-held.ensures.one a).0 of ∙ is, λ same. (c.of-held.ensures.one a).1 (same ∙ sym is)))
    c.in-Some.ensures

pub bounds-numbers-chunk : goal.bounds-numbers-chunk
bounds-numbers-chunk g c =
    target-within c.args.numbers.now c.args.chunk.now c.requires.within c.in-Some-next_bit.bit c.in-Some-next_bit.ensures.within
    (eqb-true (bit_at c.args.chunk.now.bits c.in-Some-next_bit.bit) 1 c.in-Some-next_bit.ensures.set)

pub loop-bit-preserved : goal.loop-bit-preserved
loop-bit-preserved g c =
    let numbers = c.args.numbers.now in
    let chunk = c.args.chunk.now in
    let old = c.args.made.now.items in
    let bit = c.in-Some-next_bit.bit in
    elim c.if-word-held.branch [
      | then-word-held w ↦
          subst (λ made. IsHeld numbers chunk old (bit + 1) made.items c.if-word-held.held) (sym w.made-is)
          (subst (IsHeld numbers chunk old (bit + 1) c.loop-bit.made.items) (sym w.held-is)
          (same-word numbers chunk old c.loop-bit.made.items c.loop-bit.held c.loop-bit.from bit c.loop-bit.invariant c.in-Some-next_bit.ensures w.if-word-held.true))
      | else-word-held+in_ok-push_chunk w ↦
          subst (λ made. IsHeld numbers chunk old (bit + 1) made.items c.if-word-held.held) (sym w.made-is)
          (subst (IsHeld numbers chunk old (bit + 1) w.push_chunk.new.chunks.items) (sym w.held-is)
          (other-word numbers chunk old c.loop-bit.made.items c.loop-bit.held c.loop-bit.from bit c.loop-bit.invariant c.in-Some-next_bit.ensures w.push_chunk.new.chunks.items
          (let low = c.type_inv.numbers (64 * chunk.word + bit) in omega (arith, low)) w.in_ok-push_chunk.ensures.words w.in_ok-push_chunk.ensures.same))
    ]

pub returns-clause-same : goal.returns-clause-same
returns-clause-same g c =
    on_ok_weaker c.push_chunk-2.result
    (last-added c.args.numbers.now c.args.chunk.now c.args.made.now.items c.loop-bit.made.items c.push_chunk-2.new.chunks.items c.loop-bit.held c.loop-bit.from c.loop-bit.invariant c.in_default-next_bit.ensures)
    c.push_chunk-2.ensures.same
