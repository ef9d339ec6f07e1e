use Rattle.cil_member_updates.proofs.Common.{◌∙◌, ◌/◌, ◌≤◌, length, refl, sym, inl, inr, arith, cases_lt, count_now, evaluations_in, MayMove, MustMove, is_given, new_in, old_in, was_given}
use Rattle.cil_member_updates.proofs.EvaluatedLemmas.{words-all, words-from, words-next}
use Rattle.cil_member_updates.proofs.MovedLemmas.{moved-all, moved-from, moved-more, stays-first, stays-next}
use Rattle.cil_member_updates.proofs.SideLemmas.{given-past, stayed-still}
use Rattle.cil_member_updates.proofs.StayLemmas.{stayed-gives, stayed-unmoved, stayed-within}
use Rattle.cil_member_updates.proofs.sets.move_set.Goals as goal

pub move_word-requires-clause-stayed : goal.move_word-requires-clause-stayed
move_word-requires-clause-stayed g c =
    stayed-still c.args.stayed.now c.resolved_sets_are_in_order.ensures.in_order c.args.rows.now c.loop-word.rows c.requires.stayed c.loop-word.invariant.stays.counts c.loop-word.word c.loop-word.invariant.now

pub move_word-requires-clause-above : goal.move_word-requires-clause-above
move_word-requires-clause-above g c a t here =
    let same = c.loop-word.invariant.now.behind a t (omega (arith, here)) in
    let above = c.requires.above a t in
    omega (arith, same, above)

pub loop-word-init : goal.loop-word-init
loop-word-init g c =
    let s = c.args.stayed.now in
    let first = c.turned_words-turned.result.first in
    record {
      now = moved-from (was_given s) (is_given s) first (count_now c.args.rows.now) (λ a t low. stayed-gives s (t / 64) (c.turned_words-turned.ensures (t / 64) (inl low)) c.requires.stayed.same a t refl);
      stays = stays-first c.args.rows.now c.args.meter.now;
      evaluations = words-from (MayMove s) (MustMove s) first (evaluations_in c.args.meter.now) (λ t low. stayed-unmoved s (t / 64) (c.turned_words-turned.ensures (t / 64) (inl low)) t refl);
    }

pub loop-word-preserved : goal.loop-word-preserved
loop-word-preserved g c =
    let s = c.args.stayed.now in
    let step = c.in_ok-move_word.ensures in
    record {
      now = moved-more (was_given s) (is_given s) c.loop-word.word (count_now c.args.rows.now) (count_now c.loop-word.rows) (count_now c.move_word.new.rows) c.loop-word.invariant.now step.now;
      stays = stays-next c.args.rows.now c.loop-word.rows c.move_word.new.rows c.args.meter.now c.loop-word.meter c.move_word.new.meter c.loop-word.invariant.stays step.stays;
      evaluations = words-next (MayMove s) (MustMove s) c.loop-word.word (evaluations_in c.args.meter.now) (evaluations_in c.loop-word.meter) (evaluations_in c.move_word.new.meter) c.loop-word.invariant.evaluations step.evaluations;
    }

pub returns-clause-now : goal.returns-clause-now
returns-clause-now g c =
    let s = c.args.stayed.now in
    let p = s.policies.now in
    let end = c.loop-word-test.false in
    let min = c.min-end.ensures in
    let len = c.len.ensures.len in
    moved-all (was_given s) (is_given s) c.loop-word.word (count_now c.args.rows.now) (count_now c.loop-word.rows) c.loop-word.invariant.now
    (λ a t past. elim (cases_lt (t / 64) c.turned_words-turned.result.end) [
      | inl low ↦
          let behind : length p.symbols.now ≤ t = omega (arith, low, past, end, min, len) in
          given-past p.symbols.now (old_in p) s.i a t behind ∙ sym (given-past p.symbols.now (new_in p) s.j a t behind)
      | inr high ↦ stayed-gives s (t / 64) (c.turned_words-turned.ensures (t / 64) (inr high)) c.requires.stayed.same a t refl
    ])

pub returns-clause-evaluations : goal.returns-clause-evaluations
returns-clause-evaluations g c =
    let s = c.args.stayed.now in
    let end = c.loop-word-test.false in
    let min = c.min-end.ensures in
    let len = c.len.ensures.len in
    words-all (MayMove s) (MustMove s) c.loop-word.word (evaluations_in c.args.meter.now) (evaluations_in c.loop-word.meter)
    (λ t must. elim (cases_lt (t / 64) c.loop-word.word) [
      | inl low ↦ low
      | inr past ↦
          let within = stayed-within s t must in
          let behind : c.turned_words-turned.result.end ≤ t / 64 = omega (arith, within, past, end, min, len) in
          absurd (stayed-unmoved s (t / 64) (c.turned_words-turned.ensures (t / 64) (inr behind)) t refl must)
    ])
    c.loop-word.invariant.evaluations
