use Rattle.cil_accesses.proofs.Renumbering.{chunk-put}
use Rattle.cil_accesses.proofs.renumber.push_chunk.Goals as goal

pub returns-then-add_to-clause-same : goal.returns-then-add_to-clause-same
returns-then-add_to-clause-same g c = c.if-add_to.ensures.same

pub returns-clause-same : goal.returns-clause-same
returns-clause-same g c = chunk-put _ _ _ c.args.chunk c.if-add_to.ensures.same c.in_ok-push.ensures.items
