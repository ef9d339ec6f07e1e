use Rattle.std.proofs.Common.{◌∙◌, ap, subst}
use Rattle.cil_specs.specs.Meaning.{Meaning}
use Rattle.cil_counters.specs.Counted.{IsNow, WasBefore}
use Rattle.cil_resolve.specs.Resolved.{meaning_in}
use Rattle.cil_resolve.specs.Sets.{sets_in}
use Rattle.cil_store.proofs.CountedPolicyLemmas.{none-listed}
use Rattle.cil_store.proofs.counted_policy.CountedPolicy.empty.Goals as goal

pub none-requires-clause-sets : goal.none-requires-clause-sets
none-requires-clause-sets g c =
    let nothing = c.resolved-nothing.result.now in
    let none = ap meaning_in (c.resolved-nothing.ensures ∙ c.in_ok-policy.ensures) ∙ c.in_ok-resolve_nothing.ensures in
    none-listed (meaning_in nothing).sets (sets_in nothing) (ap (λ (m : Meaning). m.sets) none) c.resolved_sets_are_in_order.ensures.the_same

pub invariant_of-result : goal.invariant_of-result
invariant_of-result g c = record {
  now = subst (λ r. IsNow r c.in_ok-counters.counters) c.resolved-nothing.ensures c.in_ok-counters.ensures.now;
  before = subst (λ r. WasBefore r c.in_ok-counters.counters) c.resolved-nothing.ensures c.in_ok-counters.ensures.before;
  settled = c.in_ok-counters.ensures.settled;
}
