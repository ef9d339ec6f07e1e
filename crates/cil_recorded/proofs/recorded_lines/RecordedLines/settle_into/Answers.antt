use Rattle.cil_recorded.proofs.Common.{◌∙◌, ap, rules, Step, falls}
use Rattle.std.proofs.lemmas.Fn.{filter_same}
use Rattle.cil_recorded.proofs.recorded_lines.RecordedLines.settle_into.Goals as goal

pub returns-clause-falls : goal.returns-clause-falls
returns-clause-falls g c =
    let kept = filter_same _ (λ (s : Step). s.clears) _ (λ x b f k. search rules) _ _ c.retain.ensures.filtered in
    rw (← c.self.view_is) (kept ∙ ap (λ v. falls v.items) c.swap.ensures.y_after)
