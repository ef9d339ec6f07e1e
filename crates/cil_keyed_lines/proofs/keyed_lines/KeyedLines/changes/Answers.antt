use Rattle.cil_keyed_lines.proofs.Common.{ℕ, ◌≤◌, ap, arith, length, sym, subst}
use Rattle.cil_recorded.specs.Differences.{appeared_at, gone_at}
use Rattle.cil_keyed_lines.proofs.ChangeLemmas.{added-every, added-first, added-next}
use Rattle.cil_keyed_lines.specs.Changes.{came_at, went_at, AreBelow}
use Rattle.cil_keyed_lines.proofs.keyed_lines.KeyedLines.changes.Goals as goal

pub loop-place-init : goal.loop-place-init
loop-place-init g c =
    let k = c.args.self.now in
    let items = c.new-changes.result.items in
    let none = c.new-changes.ensures.items in
    record {
      below = subst (λ xs. AreBelow xs 0 0) (sym none) (record { order = tt; below = λ i d within. absurd (omega (arith, within)) });
      changed = record {
        appeared = added-first (came_at k) (appeared_at items) (λ l t. ap (λ xs. appeared_at xs l t) none);
        gone = added-first (went_at k) (gone_at items) (λ l t. ap (λ xs. gone_at xs l t) none);
      };
    }

pub loop-place-preserved : goal.loop-place-preserved
loop-place-preserved g c =
    let k = c.args.self.now in
    let place = c.loop-place.place in
    let old = c.loop-place.changes.items in
    let new = c.push_changes.new.changes.items in
    let is = c.loop-place.invariant.changed in
    let push = c.in_ok-push_changes.ensures in
    record {
      below = push.below;
      changed = record {
        appeared = added-next (came_at k) (appeared_at old) (appeared_at new) place is.appeared push.changed.appeared;
        gone = added-next (went_at k) (gone_at old) (gone_at new) place is.gone push.changed.gone;
      };
    }

pub returns : goal.returns
returns g c =
    let k = c.args.self.now in
    let changes = c.loop-place.changes.items in
    let is = c.loop-place.invariant in
    let len = c.len-place-end.ensures.len in
    let apart = c.len-place-end.ensures.apart in
    let ended = c.loop-place-test.false in
    let behind = λ (i : ℕ) (past : c.loop-place.place ≤ i). (let there : length k.keys ≤ i = omega (arith, len, ended, past) in there) in
    record {
      order = is.below.order;
      appeared = added-every (came_at k) (appeared_at changes) c.loop-place.place is.changed.appeared (λ i t past. let is = apart.now i t (behind i past) in omega (arith, is));
      gone = added-every (went_at k) (gone_at changes) c.loop-place.place is.changed.gone (λ i t past. let was = apart.before i t (behind i past) in omega (arith, was));
    }
