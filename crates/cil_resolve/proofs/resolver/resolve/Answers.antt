use Rattle.cil_resolve.proofs.Common.{ap, err_from_is_err_and, joined, restricted, IsFirstFault, IsLeast, IsFaultIn, meaning_in}
use Rattle.cil_resolve.proofs.FaultLemmas.{fault-weaker}
use Rattle.cil_resolve.proofs.JudgedLemmas.{judged-in-order, judged-first, kept-means}
use Rattle.cil_resolve.proofs.resolver.resolve.Goals as goal

pub checked-requires : goal.checked-requires
checked-requires g c =
    let modules = c.requires.0 in
    let is = c.in_ok-policy.ensures.judged modules c.requires.1 in
    (restricted is.kept (joined modules), judged-in-order c.args.joined.now.modules.items modules c.requires.1 c.args.joined.now.ordered c.in_ok-policy.field-0 is)

pub returns-in_err-checker-clause-err : goal.returns-in_err-checker-clause-err
returns-in_err-checker-clause-err g c =
    let made = err_from_is_err_and c.from_residual-in_err-checker.result c.from_residual-in_err-checker.ensures.1 in
    rw (made.1, made.2) (λ modules are.
    let is = c.in_ok-policy.ensures.judged modules are in
    let kept = restricted is.kept (joined modules) in
    fault-weaker c.in_err-checker.field-0.0 (IsLeast (IsFaultIn kept)) (IsFirstFault (joined modules)) (judged-first (joined modules) is.kept is.are_kept is.once)
    (c.in_err-checker.ensures.err kept (judged-in-order c.args.joined.now.modules.items modules are c.args.joined.now.ordered c.in_ok-policy.field-0 is)))

pub lowered-requires : goal.lowered-requires
lowered-requires g c =
    let modules = c.requires.0 in
    let is = c.in_ok-policy.ensures.judged modules c.requires.1 in
    let kept = restricted is.kept (joined modules) in
    let order = judged-in-order c.args.joined.now.modules.items modules c.requires.1 c.args.joined.now.ordered c.in_ok-policy.field-0 is in
    (kept, c.in_ok-checker.ensures.noted kept order, c.in_ok-checker.ensures.faultless kept order)

pub returns-in_err-lowered-clause-err : goal.returns-in_err-lowered-clause-err
returns-in_err-lowered-clause-err g c =
    let made = err_from_is_err_and c.from_residual-in_err-lowered.result c.from_residual-in_err-lowered.ensures.1 in
    rw (made.1, made.2) (λ modules are. tt)

pub returns-clause-meaning : goal.returns-clause-meaning
returns-clause-meaning g c = λ modules are.
    let is = c.in_ok-policy.ensures.judged modules are in
    let kept = restricted is.kept (joined modules) in
    let parsed = c.args.joined.now.modules.items in
    let order = judged-in-order parsed modules are c.args.joined.now.ordered c.in_ok-policy.field-0 is in
    let faultless = c.in_ok-checker.ensures.faultless kept order in (
      is.kept,
      kept-means (joined modules) parsed c.in_ok-checker.checker.bound.joined.now.modules.items c.in_ok-policy.field-0 is (meaning_in c.in_ok-lowered.field-0) (ap (λ j. j.modules.items) c.in_ok-checker.ensures.joined) faultless
          (c.in_ok-lowered.ensures kept (c.in_ok-checker.ensures.noted kept order) faultless),
    )
