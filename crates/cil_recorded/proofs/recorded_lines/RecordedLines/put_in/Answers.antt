use Rattle.std.proofs.Common.{le_refl, refl, reverse}
use Rattle.cil_recorded.proofs.LogLemmas.{count_append, limit_append, sound_append, undone_same}
use Rattle.cil_recorded.specs.Recorded.{count_in}
use Rattle.cil_recorded.proofs.recorded_lines.RecordedLines.put_in.Goals as goal

pub invariant_of-self-2 : goal.invariant_of-self-2
invariant_of-self-2 g c = rw c.in_ok-push.ensures.items (sound_append c.self.inside.lines.items _ c.self.inside.log.items c.new.ensures c.self.invariant)

pub returns-clause-now : goal.returns-clause-now
returns-clause-now g c = rw (c.in_ok-push.ensures.items, ← c.self.view_is) (count_append c.self.inside.lines.items _ c.new.ensures)

pub returns-clause-before : goal.returns-clause-before
returns-clause-before g c =
    let old = c.self.inside.lines.items in
    rw (c.in_ok-push.ensures.items, ← c.self.view_is) (undone_same (reverse c.self.inside.log.items) (count_in old) _ (count_append old _ c.new.ensures))

pub returns-clause-limits : goal.returns-clause-limits
returns-clause-limits g c = rw (c.in_ok-push.ensures.items, ← c.self.view_is) (limit_append c.self.inside.lines.items _)

pub returns-in_err-push-clause-now : goal.returns-in_err-push-clause-now
returns-in_err-push-clause-now g c = rw (c.in_err-push.ensures.items, ← c.self.view_is) (λ l t. refl)

pub returns-in_err-push-clause-before : goal.returns-in_err-push-clause-before
returns-in_err-push-clause-before g c = rw (c.in_err-push.ensures.items, ← c.self.view_is) (λ l t. refl)

pub returns-in_err-push-clause-limits : goal.returns-in_err-push-clause-limits
returns-in_err-push-clause-limits g c = rw (c.in_err-push.ensures.items, ← c.self.view_is) (λ l w. le_refl _)
