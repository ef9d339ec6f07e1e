use Rattle.std.proofs.Common.{refl, le_refl}
use Rattle.cil_recorded.proofs.CopyLemmas.{before_others, count_others, sound_copied}
use Rattle.cil_recorded.proofs.LogLemmas.{limit_append}
use Rattle.cil_recorded.proofs.recorded_lines.RecordedLines.put_copy.Goals as goal

pub invariant_of-self-2 : goal.invariant_of-self-2
invariant_of-self-2 g c = rw c.in_ok-push.ensures.items (sound_copied c.self.inside.lines.items _ c.self.inside.log.items c.self.invariant)

pub returns-clause-now : goal.returns-clause-now
returns-clause-now g c = rw (c.in_ok-push.ensures.items, ← c.self.view_is) (count_others c.self.inside.lines.items _)

pub returns-clause-before : goal.returns-clause-before
returns-clause-before g c = rw (c.in_ok-push.ensures.items, ← c.self.view_is) (before_others c.self.inside.lines.items _ c.self.inside.log.items)

pub returns-clause-limits : goal.returns-clause-limits
returns-clause-limits g c = rw (c.in_ok-push.ensures.items, ← c.self.view_is) (limit_append c.self.inside.lines.items _)

pub returns-in_err-push-clause-now : goal.returns-in_err-push-clause-now
returns-in_err-push-clause-now g c = rw (c.in_err-push.ensures.items, ← c.self.view_is) (λ l t other. refl)

pub returns-in_err-push-clause-before : goal.returns-in_err-push-clause-before
returns-in_err-push-clause-before g c = rw (c.in_err-push.ensures.items, ← c.self.view_is) (λ l t other. refl)

pub returns-in_err-push-clause-limits : goal.returns-in_err-push-clause-limits
returns-in_err-push-clause-limits g c = rw (c.in_err-push.ensures.items, ← c.self.view_is) (λ l w. le_refl _)
