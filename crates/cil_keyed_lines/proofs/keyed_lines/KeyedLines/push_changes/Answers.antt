use Rattle.cil_keyed_lines.proofs.Common.{◌^◌, ◌<◌, arith, bit_and, refl, rules, subst, sym, w64}
use Rattle.std.specs.Int.{bit_not}
use Rattle.cil_recorded.specs.Differences.{appeared_at, gone_at}
use Rattle.cil_keyed_lines.proofs.ChangeLemmas.{added-all, added-none, added-same, added-word, below-place, below-word, bit-lacks, same-came, same-went, word-behind}
use Rattle.cil_keyed_lines.specs.Changes.{came_at, went_at, AreAddedBelow, AreBelow}
use Rattle.cil_keyed_lines.proofs.keyed_lines.KeyedLines.push_changes.Goals as goal

pub returns-then-is_same : goal.returns-then-is_same
returns-then-is_same g c =
    let k = c.args.self.now in
    let place = c.args.place in
    let old = c.args.changes.now.items in
    let same = c.if-is_same.ensures refl in
    record {
      below = below-place old place 0 (omega arith) c.requires.below;
      changed = record {
        appeared = added-same (came_at k place) place (appeared_at old) (λ t. same-came k place t (same t (omega arith)));
        gone = added-same (went_at k place) place (gone_at old) (λ t. same-went k place t (same t (omega arith)));
      };
    }

pub loop-word-init : goal.loop-word-init
loop-word-init g c =
    let k = c.args.self.now in
    let place = c.args.place in
    let old = c.args.changes.now.items in
    record {
      fits = omega arith;
      below = c.requires.below;
      changed = record { appeared = added-none (came_at k place) place (appeared_at old); gone = added-none (went_at k place) place (gone_at old) };
    }

pub push_change-requires : goal.push_change-requires
push_change-requires g c = below-word c.loop-word.changes.items c.args.place c.loop-word.from c.in-Some.word c.in-Some.ensures.from_on c.loop-word.invariant.below

pub loop-word-preserved : goal.loop-word-preserved
loop-word-preserved g c =
    let k = c.args.self.now in
    let place = c.args.place in
    let from = c.loop-word.from in
    let word = c.in-Some.word in
    let was = c.present_before-was in
    let is = c.present-is in
    let old = c.args.changes.now.items in
    let mid = c.loop-word.changes.items in
    let new = c.push_change.new.changes.items in
    let inv = c.loop-word.invariant in
    let push = c.in_ok-push_change.ensures in
    let found = c.in-Some.ensures in
    let (behind, fits) = word-behind c.checked_add.result word c.in_ok-from.from c.in_ok-from.ensures.ok_part c.checked_add.ensures in
    let was_fits : was.result < 2 ^ 64 = search rules in
    let is_fits : is.result < 2 ^ 64 = search rules in
    record {
      fits = fits;
      below = subst (AreBelow new place) (sym behind) push.below;
      changed = record {
        appeared =
            subst (λ n. AreAddedBelow (came_at k place) place n (appeared_at old) (appeared_at new)) (sym behind)
            (added-word (came_at k place) place (appeared_at old) (appeared_at mid) (appeared_at new) from word (bit_and is.result (bit_not w64 was.result)) inv.changed.appeared push.appeared found.from_on
            (λ t on less. same-came k place t (found.first t on less)) (λ b small. bit-lacks is.result was.result b _ _ small was_fits (is.ensures b small) (was.ensures b small)));
        gone =
            subst (λ n. AreAddedBelow (went_at k place) place n (gone_at old) (gone_at new)) (sym behind)
            (added-word (went_at k place) place (gone_at old) (gone_at mid) (gone_at new) from word (bit_and was.result (bit_not w64 is.result)) inv.changed.gone push.gone found.from_on
            (λ t on less. same-went k place t (found.first t on less)) (λ b small. bit-lacks was.result is.result b _ _ small is_fits (was.ensures b small) (is.ensures b small)));
      };
    }

pub returns : goal.returns
returns g c =
    let k = c.args.self.now in
    let place = c.args.place in
    let from = c.loop-word.from in
    let old = c.args.changes.now.items in
    let new = c.loop-word.changes.items in
    let is = c.loop-word.invariant in
    record {
      below = below-place new place from is.fits is.below;
      changed = record {
        appeared = added-all (came_at k place) place (appeared_at old) (appeared_at new) from is.changed.appeared (λ t on. same-came k place t (c.in_default.ensures t on));
        gone = added-all (went_at k place) place (gone_at old) (gone_at new) from is.changed.gone (λ t on. same-went k place t (c.in_default.ensures t on));
      };
    }
