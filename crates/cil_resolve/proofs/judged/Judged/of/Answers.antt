use Rattle.cil_resolve.proofs.Common.{joined, IsFirstFault, fault_of}
use Rattle.cil_resolve.proofs.FaultLemmas.{fault-is, found-fault}
use Rattle.cil_resolve.proofs.JudgedLemmas.{once-whole, twice-first}
use Rattle.cil_resolve.proofs.judged.Judged.of.Goals as goal

pub returns-in-Twice-clause-err : goal.returns-in-Twice-clause-err
returns-in-Twice-clause-err g c = λ modules are.
    let parsed = c.args.joined.now.modules.items in
    let again = c.in-Twice.again in
    let first = twice-first parsed modules are c.args.joined.now.ordered c.in_ok-policy.field-0 again (c.in_ok-policy.ensures.made modules are.spelt) c.in-Twice.is in
    found-fault c.again_fault.result (IsFirstFault (joined modules)) (fault-is c.again_fault.result (IsFirstFault (joined modules)) (fault_of again) c.again_fault.ensures first)

pub of_policy-requires : goal.of_policy-requires
of_policy-requires g c =
    let modules = c.requires.0 in
    let are = c.requires.1 in (
      joined modules,
      once-whole c.args.joined.now.modules.items modules are c.args.joined.now.ordered c.in_ok-policy.field-0 c.in-Once.policy (c.in_ok-policy.ensures.made modules are.spelt) (c.in_ok-policy.ensures.around modules are.spelt) c.in-Once.is,
    )

pub returns-clause-judged : goal.returns-clause-judged
returns-clause-judged g c = λ modules are.
    c.in_ok-judged.ensures (joined modules)
    (once-whole c.args.joined.now.modules.items modules are c.args.joined.now.ordered c.in_ok-policy.field-0 c.in-Once.policy (c.in_ok-policy.ensures.made modules are.spelt) (c.in_ok-policy.ensures.around modules are.spelt) c.in-Once.is)
