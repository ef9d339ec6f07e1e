use Rattle.std.proofs.Common.{◌≡◌, slice_get}
use Rattle.cil_accesses.specs.View.{from_bit, run_accesses}
use Rattle.cil_accesses.proofs.place.access_in_run.Given as goal

abbrev pub invariant-loop-bit : goal.invariant-loop-bit
invariant-loop-bit l = slice_get (run_accesses l.run) l.place ≡ slice_get (from_bit l.bit l.run) l.rest
