use Rattle.cil_recorded.proofs.TurnLemmas.{split_changes, IfOk-both}
use Rattle.cil_recorded.proofs.recorded_lines.RecordedLines.changes.Goals as goal

pub returns : goal.returns
returns g c =
    let same = rw c.deref.ensures.value at c.in_ok-turns.ensures.turned in
    let balance = rw c.deref-2.ensures.value at c.split.ensures.balance in
    let low = rw c.deref-2.ensures.value at c.split.ensures.low in
    record {
      order = c.split.ensures.order;
      appeared = rw (← c.self.view_is) (IfOk-both c.split.result (λ v is low l t. (split_changes _ c.self.inside.log.items _ _ c.in_ok-turns.ensures.order same c.self.invariant.turned v.items is low l t).0) balance low);
      gone = rw (← c.self.view_is) (IfOk-both c.split.result (λ v is low l t. (split_changes _ c.self.inside.log.items _ _ c.in_ok-turns.ensures.order same c.self.invariant.turned v.items is low l t).1) balance low);
    }
