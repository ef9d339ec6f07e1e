use Rattle.std.proofs.lemmas.Result.{err_from_is_err_and}
use Rattle.cil_resolve.proofs.resolver.checked.Goals as goal

pub check-requires : goal.check-requires
check-requires g c =
    let order = c.requires.1 in
    (c.requires.0, c.in_ok-checker.ensures.noted c.requires.0 (record { bound = order.bound; ordered = order.ordered; inside = order.inside; spelt = order.spelt }))

pub returns-in_err-check-clause-err : goal.returns-in_err-check-clause-err
returns-in_err-check-clause-err g c =
    let made = err_from_is_err_and c.from_residual-in_err-check.result c.from_residual-in_err-check.ensures.1 in
    rw (made.1, made.2) (λ others order.
    c.in_err-check.ensures.err others (c.in_ok-checker.ensures.noted others (record { bound = order.bound; ordered = order.ordered; inside = order.inside; spelt = order.spelt })))

pub returns-clause-noted : goal.returns-clause-noted
returns-clause-noted g c = λ others order. c.in_ok-checker.ensures.noted others (record { bound = order.bound; ordered = order.ordered; inside = order.inside; spelt = order.spelt })

pub returns-clause-faultless : goal.returns-clause-faultless
returns-clause-faultless g c = λ others order.
    c.in_ok-check.ensures.ok others (c.in_ok-checker.ensures.noted others (record { bound = order.bound; ordered = order.ordered; inside = order.inside; spelt = order.spelt }))
