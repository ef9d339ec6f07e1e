use Rattle.cil_recorded.proofs.Common.{bit_and, w64, refl, rules, bit_not, count_in}
use Rattle.cil_recorded.proofs.EndLemmas.{falls_up}
use Rattle.cil_recorded.proofs.LogLemmas.{back_up, before_step, moved_up, sound_up}
use Rattle.cil_recorded.proofs.recorded_lines.RecordedLines.raise.Goals as goal

pub invariant_of-self : goal.invariant_of-self
invariant_of-self g c =
    let old = c.self.inside.lines.items in
    let step = c.raise.ensures in
    rw c.log_step.ensures.items
    (sound_up old c.raise.new.lines.items c.self.inside.log.items c.self.invariant step.limits c.args.line c.args.word c.args.mask (rw (← c.self.view_is) at c.requires.line) step.len c.present.result step.now (search rules)
    (rw (← c.self.view_is) at c.present.ensures))

pub returns-clause-moved : goal.returns-clause-moved
returns-clause-moved g c =
    rw (← c.self.view_is) (moved_up c.args.line c.args.word c.args.mask (count_in c.self.inside.lines.items) (count_in c.raise.new.lines.items) (search rules) c.raise.ensures.now)

pub returns-clause-before : goal.returns-clause-before
returns-clause-before g c l t =
    rw (c.log_step.ensures.items, ← c.self.view_is)
    (before_step _ _ _ (back_up (count_in c.self.inside.lines.items) (count_in c.raise.new.lines.items) c.args.line c.args.word c.args.mask (bit_and c.args.mask (bit_not w64 c.present.result)) c.raise.ensures.now) c.self.inside.log.items l t)

pub returns-clause-falls : goal.returns-clause-falls
returns-clause-falls g c = rw (c.log_step.ensures.items, ← c.self.view_is) (falls_up c.self.inside.log.items _ refl)
