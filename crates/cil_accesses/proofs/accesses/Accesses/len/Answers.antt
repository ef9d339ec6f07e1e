use Rattle.std.proofs.Common.{◌∙◌, length, sum_by, sym, ap, arith, take_all}
use Rattle.cil_accesses.specs.Chunks.{ones_of}
use Rattle.cil_accesses.proofs.Ascending.{accesses-ascend}
use Rattle.cil_accesses.proofs.Counts.{length-accesses_of}
use Rattle.cil_accesses.proofs.accesses.Accesses.len.Goals as goal

pub returns-clause-count : goal.returns-clause-count
returns-clause-count g c =
    let past = take_all c.loop-chunk.chunk-index c.deref-chunk-items.result.now (omega arith) in
    c.loop-chunk.invariant.counted ∙ ap (sum_by ones_of) (past ∙ c.deref-chunk-items.ensures.value) ∙ sym (length-accesses_of c.self.inside.chunks.items) ∙ ap length c.self.view_is

pub returns-clause-ordered : goal.returns-clause-ordered
returns-clause-ordered g c = rw (← c.self.view_is) (accesses-ascend c.self.inside.chunks.items c.self.invariant.ordered)
