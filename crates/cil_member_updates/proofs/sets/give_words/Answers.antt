use Rattle.cil_member_updates.proofs.Common.{◌/◌, ◌≤◌, arith, cases_lt, inl, inr, refl, count_now, evaluations_in, meaning_in, MayHold, MustHold, given_of, lowered_by, raised_by, set_of}
use Rattle.cil_member_updates.proofs.EvaluatedLemmas.{holds-within, words-all, words-from, words-next}
use Rattle.cil_member_updates.proofs.MovedLemmas.{moved-all, moved-from, moved-more, none-given, stays-first, stays-next}
use Rattle.cil_member_updates.proofs.SideLemmas.{given-past, reads-still}
use Rattle.cil_member_updates.proofs.StayLemmas.{given-unheld, unheld}
use Rattle.cil_member_updates.proofs.sets.give_words.Goals as goal

pub give_word-requires-clause-reads : goal.give_word-requires-clause-reads
give_word-requires-clause-reads g c =
    reads-still c.args.reading.now c.resolved_sets_are_in_order.ensures.in_order c.args.rows.now c.loop-word.rows c.requires.reads c.loop-word.invariant.stays.counts c.loop-word.word c.loop-word.invariant.now

pub give_word-requires-clause-above : goal.give_word-requires-clause-above
give_word-requires-clause-above g c a t here =
    let same = c.loop-word.invariant.now.behind a t (omega (arith, here)) in
    let above = c.requires.above a t in
    omega (arith, same, above)

pub loop-word-init : goal.loop-word-init
loop-word-init g c =
    let r = c.args.reading.now in
    let first = c.reached_words-reached.result.first in
    record {
      now = moved-from (lowered_by r) (raised_by r) first (count_now c.args.rows.now)
          (λ a t low. none-given r.when (given_of r) a t (given-unheld r (t / 64) (c.reached_words-reached.ensures (t / 64) (inl low)) a t refl));
      stays = stays-first c.args.rows.now c.args.meter.now;
      evaluations = words-from (MayHold r) (MustHold r) first (evaluations_in c.args.meter.now) (λ t low. unheld r (t / 64) (c.reached_words-reached.ensures (t / 64) (inl low)) t refl);
    }

pub loop-word-preserved : goal.loop-word-preserved
loop-word-preserved g c =
    let r = c.args.reading.now in
    let step = c.in_ok-give_word.ensures in
    record {
      now = moved-more (lowered_by r) (raised_by r) c.loop-word.word (count_now c.args.rows.now) (count_now c.loop-word.rows) (count_now c.give_word.new.rows) c.loop-word.invariant.now step.now;
      stays = stays-next c.args.rows.now c.loop-word.rows c.give_word.new.rows c.args.meter.now c.loop-word.meter c.give_word.new.meter c.loop-word.invariant.stays step.stays;
      evaluations = words-next (MayHold r) (MustHold r) c.loop-word.word
          (evaluations_in c.args.meter.now) (evaluations_in c.loop-word.meter) (evaluations_in c.give_word.new.meter) c.loop-word.invariant.evaluations step.evaluations;
    }

pub returns : goal.returns
returns g c =
    let r = c.args.reading.now in
    let end = c.loop-word-test.false in
    let min = c.min-end.ensures in
    let len = c.len.ensures.len in
    record {
      now = moved-all (lowered_by r) (raised_by r) c.loop-word.word (count_now c.args.rows.now) (count_now c.loop-word.rows) c.loop-word.invariant.now
          (λ a t past. none-given r.when (given_of r) a t (elim (cases_lt (t / 64) c.reached_words-reached.result.end) [
            | inl low ↦ given-past r.symbols.now r.side.now.resolved.now r.place a t (omega (arith, low, past, end, min, len))
            | inr high ↦ given-unheld r (t / 64) (c.reached_words-reached.ensures (t / 64) (inr high)) a t refl
          ]));
      stays = c.loop-word.invariant.stays;
      evaluations = words-all (MayHold r) (MustHold r) c.loop-word.word (evaluations_in c.args.meter.now) (evaluations_in c.loop-word.meter)
          (λ t held. elim (cases_lt (t / 64) c.loop-word.word) [
            | inl low ↦ low
            | inr past ↦
                let within = holds-within r.symbols.now (meaning_in r.side.now.resolved.now) (set_of r) t held in
                let behind : c.reached_words-reached.result.end ≤ t / 64 = omega (arith, within, past, end, min, len) in
                absurd (unheld r (t / 64) (c.reached_words-reached.ensures (t / 64) (inr behind)) t refl held)
          ])
          c.loop-word.invariant.evaluations;
    }
