use Rattle.cil_accesses.proofs.Made.{no-chunks, no-accesses}
use Rattle.cil_accesses.proofs.accesses.Accesses.empty.Goals as goal

pub invariant_of-result : goal.invariant_of-result
invariant_of-result g c = rw c.new.ensures.items no-chunks

pub returns : goal.returns
returns g c = rw c.new.ensures.items no-accesses
