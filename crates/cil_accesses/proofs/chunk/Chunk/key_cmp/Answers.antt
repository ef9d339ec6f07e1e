use Rattle.std.proofs.Common.{◌∙◌}
use Rattle.std.specs.Ordering.{ordering_then}
use Rattle.cil_accesses.proofs.Order.{key-cmp}
use Rattle.cil_accesses.proofs.chunk.Chunk.key_cmp.Goals as goal

pub returns : goal.returns
returns c =
    let word = c.then.ensures ∙ (λ i. ordering_then (c.cmp-2.ensures i) (c.cmp-3.ensures i)) in
    let run = c.then-run.ensures ∙ (λ i. ordering_then c.cmp.result (word i)) in
    let permission = c.then-2.ensures ∙ (λ i. ordering_then (c.cmp-4.ensures i) (c.cmp-5.ensures i)) in
    c.then-3.ensures ∙ (λ i. ordering_then (run i) (permission i)) ∙ key-cmp c.cmp.result c.args.self.now c.args.other.now c.cmp.ensures
