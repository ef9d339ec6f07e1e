use Rattle.std.proofs.Common.{◌∙◌, sym}
use Rattle.cil_projection.proofs.MarkLemmas.{mark_later}
use Rattle.cil_projection.proofs.marked.has_mark.Goals as goal

pub loop-rest-preserved : goal.loop-rest-preserved
loop-rest-preserved c =
    mark_later c.loop-rest.rest.now c.in-len1-up.len_at_least (sym c.starts_with.ensures.value ∙ c.if-starts_with.false) ∙ c.loop-rest.invariant
