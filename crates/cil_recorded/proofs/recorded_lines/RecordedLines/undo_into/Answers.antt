use Rattle.cil_recorded.proofs.Common.{◌≡◌, ◌∙◌, ◌<◌, ◌≤◌, ◌+◌, ◌-◌, ◌++◌, ◌∷◌, ℕ, List, [], sym, ap, length, take, get_or, arith, take_more, Step, count_in, limit_in}
use Rattle.cil_recorded.proofs.LogLemmas.{left_over, took_up, took_down}
use Rattle.cil_recorded.proofs.recorded_lines.RecordedLines.undo_into.Goals as goal

-- the newest of the steps that are left
newest_left : (items log : List Step) (left : ℕ) (s : Step) → items ≡ log → 0 < left → left ≤ length items → s ≡ get_or items (left - 1) s
    → take left log ≡ take (left - 1) log ++ s ∷ []
newest_left items log left s same some within here =
    let n = left - 1 in
    let long : left ≡ n + 1 = omega arith in
    let less : n < length log = omega (arith, ap length same, within) in
    ap (λ k. take k log) long ∙ take_more log n s less ∙ ap (λ x. take n log ++ x ∷ []) (ap (λ l. get_or l n s) (sym same) ∙ sym here)

pub loop-left-preserved-then-step : goal.loop-left-preserved-then-step
loop-left-preserved-then-step g c =
    let was = c.loop-left.self-inside in
    let is = c.loop-left.invariant in
    let log = c.args.self.now.log in
    let step = c.lower.ensures in
    let s = c.index-step.result.now in
    let took = took_up s (count_in was.lines.items) (count_in c.lower.new.lines.items) c.if-step.true step.now in
    let newest = newest_left was.log.items log c.loop-left.left s is.log (omega arith) (omega (arith, is.within)) c.index-step.ensures in
    let left = left_over _ _ _ (take (c.loop-left.left - 1) log) s _ _ (limit_in was.lines.items) (limit_in c.lower.new.lines.items) _ step.len newest took step.limits is.can is.same in
    record { len = step.len ∙ is.len; log = is.log; within = omega (arith, is.within); can = left.0; same = left.1 }

pub loop-left-preserved : goal.loop-left-preserved
loop-left-preserved g c =
    let was = c.loop-left.self-inside in
    let is = c.loop-left.invariant in
    let log = c.args.self.now.log in
    let step = c.raise.ensures in
    let s = c.index-step.result.now in
    let took = took_down s (count_in was.lines.items) (count_in c.raise.new.lines.items) c.if-step.false step.now in
    let newest = newest_left was.log.items log c.loop-left.left s is.log (omega arith) (omega (arith, is.within)) c.index-step.ensures in
    let left = left_over _ _ _ (take (c.loop-left.left - 1) log) s _ _ (limit_in was.lines.items) (limit_in c.raise.new.lines.items) _ step.len newest took step.limits is.can is.same in
    record { len = step.len ∙ is.len; log = is.log; within = omega (arith, is.within); can = left.0; same = left.1 }
