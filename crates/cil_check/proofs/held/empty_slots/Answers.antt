use Rattle.std.proofs.Common.{subst, sym}
use Rattle.cil_check.specs.Recent.{AreHeld}
use Rattle.cil_check.proofs.RecentLemmas.{held-none, only-none}
use Rattle.cil_check.proofs.held.empty_slots.Goals as goal

pub returns-in-Ok : goal.returns-in-Ok
returns-in-Ok g c = λ holds. subst (AreHeld holds) (sym (c.in-Ok.ensures.items_if_clones_equal (only-none _ (λ x some. some)))) (held-none holds 2048)
