use Rattle.std.proofs.Common.{◌≡◌, ◌+◌, drop, filter, length, slice_get}
use Rattle.cil_accesses.specs.View.{has_bit}
use Rattle.cil_accesses.proofs.place.chunk_with_bit.Given as goal

abbrev pub invariant-loop-chunk : goal.invariant-loop-chunk
invariant-loop-chunk l = record {
  at : slice_get (filter (has_bit l.bit) l.run) l.place ≡ slice_get (filter (has_bit l.bit) (drop l.chunk-index l.run)) l.rest;
  count : l.place + length (filter (has_bit l.bit) (drop l.chunk-index l.run)) ≡ length (filter (has_bit l.bit) l.run) + l.rest;
}
