use Rattle.std.proofs.Common.{◌∙◌}
use Rattle.cil_optionals.proofs.ListedLemmas.{commons-kept}
use Rattle.cil_optionals.proofs.listed.make_room.Goals as goal

pub loop-alloc-preserved : goal.loop-alloc-preserved
loop-alloc-preserved g c = λ i. commons-kept c.loop-alloc.given.items c.push.new.self.items c.new.result c.in_ok-push.ensures.items c.new.ensures.items i ∙ c.loop-alloc.invariant i
