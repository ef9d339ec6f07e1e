use Rattle.cil_keyed_lines.proofs.Common.{◌≡◌, length, rules, steps_in}
use Rattle.cil_keyed_lines.proofs.SharedLemmas.{quiet_before, quiet_counted}
use Rattle.cil_keyed_lines.proofs.keyed_lines.KeyedLines.is_pending.Goals as goal

pub returns-clause-counted : goal.returns-clause-counted
returns-clause-counted g c _ =
    let old = c.self.inside in
    let none : length old.names.log ≡ 0 = search rules in
    rw (← c.self.view_is) (quiet_counted (record { keys = old.keys.keys; names = old.names; lines = old.lines }) old.keys_before old.lines_before c.self.invariant none)

pub returns-clause-none : goal.returns-clause-none
returns-clause-none g c quiet =
    let old = c.self.inside in
    let none : length old.names.log ≡ 0 = search rules in
    let steps : steps_in old.lines ≡ 0 = search rules in
    rw (← c.self.view_is) (quiet_before (record { keys = old.keys.keys; names = old.names; lines = old.lines }) old.keys_before old.lines_before c.self.invariant none steps)
