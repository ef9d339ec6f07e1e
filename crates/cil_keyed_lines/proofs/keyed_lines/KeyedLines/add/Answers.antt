use Rattle.cil_keyed_lines.proofs.Common.{◌≡◌, ◌∙◌, arith, false, rules}
use Rattle.cil_keyed_lines.proofs.keyed_lines.KeyedLines.add.Goals as goal

pub returns-in-Ok-clause-now : goal.returns-in-Ok-clause-now
returns-in-Ok-clause-now g c k t = omega (arith, c.in-Ok.ensures.now k t, c.settle.ensures.now k t)

pub returns-in-Err-clause-kept : goal.returns-in-Err-clause-kept
returns-in-Err-clause-kept g c k t =
    let quiet : c.is_pending-pending.result ≡ false = search rules in
    c.undo.ensures.now k t ∙ c.in-Err.ensures.before k t ∙ c.is_pending-pending.ensures.none quiet k t
