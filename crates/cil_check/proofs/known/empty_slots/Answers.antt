use Rattle.std.proofs.Common.{subst, sym}
use Rattle.cil_check.specs.Recent.{AreRecent}
use Rattle.cil_check.proofs.RecentLemmas.{only-none, recent-none}
use Rattle.cil_check.proofs.known.empty_slots.Goals as goal

pub returns-in-Ok : goal.returns-in-Ok
returns-in-Ok g c = λ has. subst (AreRecent has) (sym (c.in-Ok.ensures.items_if_clones_equal (only-none _ (λ x some. some)))) (recent-none has 4096)
