use Rattle.cil_recorded.proofs.Common.{◌∙◌, ◌==◌, bit_and, w64, refl, sym, ap, rules, bit_not, IsPresence, IsSingle, falls, has_line, count_in}
use Rattle.cil_recorded.proofs.EndLemmas.{others_down}
use Rattle.cil_recorded.proofs.LogLemmas.{back_down, before_step, moved_down, sound_down}
use Rattle.cil_recorded.proofs.recorded_lines.RecordedLines.lower.Goals as goal

pub invariant_of-self : goal.invariant_of-self
invariant_of-self g c =
    let old = c.self.inside.lines.items in
    let step = c.lower.ensures in
    rw c.log_step.ensures.items
    (sound_down old c.lower.new.lines.items c.self.inside.log.items c.self.invariant step.limits c.args.line c.args.word c.args.mask (rw (← c.self.view_is) at c.requires.line) step.len c.single.result _ step.now
    (rw (← c.self.view_is) at c.single.ensures) step.room)

pub returns-clause-moved : goal.returns-clause-moved
returns-clause-moved g c =
    rw (← c.self.view_is) (moved_down c.args.line c.args.word c.args.mask (count_in c.self.inside.lines.items) (count_in c.lower.new.lines.items) (search rules) c.lower.ensures.now)

pub returns-clause-before : goal.returns-clause-before
returns-clause-before g c l t =
    let turned = bit_and c.args.mask c.single.result in
    let clears = bit_and c.present.result (bit_not w64 turned) == 0 in
    rw (c.log_step.ensures.items, ← c.self.view_is)
    (before_step _ _ _ (back_down (count_in c.self.inside.lines.items) (count_in c.lower.new.lines.items) c.args.line c.args.word c.args.mask turned clears c.lower.ensures.now) c.self.inside.log.items l t)

pub returns-clause-others : goal.returns-clause-others
returns-clause-others g c l none =
    let old = c.self.inside.lines.items in
    let log = c.self.inside.log.items in
    let here : IsPresence (count_in old c.args.line) c.args.word c.present.result = rw (← c.self.view_is) at c.present.ensures in
    let is : IsSingle (count_in old c.args.line) c.args.word c.single.result = rw (← c.self.view_is) at c.single.ensures in
    rw (← c.self.view_is)
    (others_down log c.args.line c.args.word c.args.mask c.single.result c.present.result (count_in old) (count_in c.lower.new.lines.items) c.ranges.mask.fits (search rules) here is c.lower.ensures.now _ refl refl l
    (sym (ap (λ ss. has_line (falls ss) l) c.log_step.ensures.items) ∙ none))
