use Rattle.cil_store.proofs.Common.{ap, Meaning, meaning_in}
use Rattle.cil_resolve.specs.Sets.{sets_in}
use Rattle.cil_store.proofs.CountedPolicyLemmas.{none-listed}
use Rattle.cil_store.proofs.policy.violations_of.Goals as goal

pub violations_at_once-requires-clause-sets : goal.violations_at_once-requires-clause-sets
violations_at_once-requires-clause-sets g c =
    let nothing = c.in_ok-nothing.nothing in
    none-listed (meaning_in nothing).sets (sets_in nothing) (ap (λ (m : Meaning). m.sets) c.in_ok-nothing.ensures) c.resolved_sets_are_in_order.ensures.the_same
