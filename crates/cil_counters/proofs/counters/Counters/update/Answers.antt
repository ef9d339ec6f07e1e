use Rattle.std.proofs.lemmas.Result.{IfOk-weaker}
use Rattle.cil_counters.proofs.counters.Counters.update.Goals as goal

pub returns-clause-adjustments : goal.returns-clause-adjustments
returns-clause-adjustments g c =
    IfOk-weaker c.changes.result _ _
    (rw (c.deref.ensures, c.deref-2.ensures) at c.in_ok-take_steps.ensures.adjustments)
    c.changes.ensures

pub returns-in_err-take_steps-clause-bounded : goal.returns-in_err-take_steps-clause-bounded
returns-in_err-take_steps-clause-bounded g c =
    rw (c.deref.ensures, c.deref-2.ensures) at c.take_steps.ensures.bounded

pub returns-clause-bounded : goal.returns-clause-bounded
returns-clause-bounded g c = rw (c.deref.ensures, c.deref-2.ensures) at c.take_steps.ensures.bounded
