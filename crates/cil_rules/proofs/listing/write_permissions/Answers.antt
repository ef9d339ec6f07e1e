use Rattle.cil_rules.proofs.Common.{on_err, gains-pieces_front, chunk_text}
use Rattle.cil_rules.proofs.ListingLemmas.{no_chunk}
use Rattle.cil_rules.proofs.listing.write_permissions.Goals as goal

pub returns-in_err-write_chunk-clause-err : goal.returns-in_err-write_chunk-clause-err
returns-in_err-write_chunk-clause-err g c =
    let taken = g.W.Sink.taken in
    on_err c.from_residual.result
    (gains-pieces_front (chunk_text c.args.names.now c.args.bit) (taken c.args.sink.now) (taken c.loop-chunk.sink) (taken c.write_chunk.new.sink) c.args.chunks.now c.loop-chunk.chunk-index no_chunk c.loop-chunk-test.true
    c.loop-chunk.invariant.so_far c.in_err-write_chunk.ensures.err)
