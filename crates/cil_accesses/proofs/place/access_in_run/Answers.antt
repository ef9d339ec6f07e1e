use Rattle.std.proofs.Common.{◌∙◌, Some, slice_get, sym, ap, arith}
use Rattle.cil_accesses.proofs.Places.{from_bit-first, from_bit-none, at-bit-here, at-bit-behind, word-of-found}
use Rattle.cil_accesses.proofs.place.access_in_run.Goals as goal

pub loop-bit-init : goal.loop-bit-init
loop-bit-init c = ap (λ l. slice_get l c.args.place) (from_bit-first c.args.run.now)

pub access-requires-clause-word : goal.access-requires-clause-word
access-requires-clause-word c = word-of-found c.args.run.now c.loop-bit.bit c.loop-bit.rest c.in-Ok.chunk.now c.requires c.in-Ok.ensures

pub returns-in-Ok : goal.returns-in-Ok
returns-in-Ok c = ap (λ x. Some x) c.access.ensures ∙ sym (c.loop-bit.invariant ∙ at-bit-here c.loop-bit.bit c.args.run.now c.loop-bit.rest c.in-Ok.chunk.now c.loop-bit-test.true c.in-Ok.ensures)

pub loop-bit-preserved : goal.loop-bit-preserved
loop-bit-preserved c = c.loop-bit.invariant ∙ at-bit-behind c.loop-bit.bit c.args.run.now c.loop-bit.rest c.in-Err.behind c.loop-bit-test.true c.in-Err.ensures

pub returns : goal.returns
returns c = sym (c.loop-bit.invariant ∙ ap (λ l. slice_get l c.loop-bit.rest) (from_bit-none c.loop-bit.bit c.args.run.now (omega arith)))
