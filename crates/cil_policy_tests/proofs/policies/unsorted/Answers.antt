use Rattle.std.proofs.Common.{refl}
use Rattle.std.specs.List.{IsDistinct}
use Rattle.cil_policy_tests.proofs.policies.unsorted.Goals as goal

pub join-requires : goal.join-requires
unfolding IsDistinct
join-requires c = rw c.in_ok-modules.ensures.items ((refl, tt), (tt, tt))
