use Rattle.cil_symbol_changes.proofs.Common.{◌≡◌, ◌∙◌, ◌+◌, ◌-◌, arith, below, came_at, has_risen, length, subst, went_at, AreCounted}
use Rattle.cil_symbol_changes.proofs.CountLemmas.{change-count}
use Rattle.cil_symbol_changes.proofs.WordCountLemmas.{alike-counts, no-places, none-came, none-went, places-none, places-run}
use Rattle.cil_symbol_changes.proofs.counted_changes.count_places.Goals as goal

pub loop-place-init : goal.loop-place-init
loop-place-init g c = record {
  within = omega arith;
  all = no-places (came_at c.args.lines.now) (went_at c.args.lines.now) c.none-counts.result c.none-counts.ensures.added c.none-counts.ensures.removed;
}

pub loop-place-preserved-in_ok-of_place : goal.loop-place-preserved-in_ok-of_place
loop-place-preserved-in_ok-of_place g c =
    let lines = c.args.lines.now in
    let place = c.loop-place.place in
    let end = c.alike_end-end.result in
    let far = c.alike_end-end.ensures.further in
    let last : place + (end - place) ≡ end = omega (arith, far) in
    let sum = c.plus-counts.ensures in
    record {
      within = c.alike_end-end.ensures.within;
      all = subst (λ e. AreCounted (below (came_at lines) e) (below (went_at lines) e) c.plus-counts.result) last
          (places-run (came_at lines) (went_at lines) place (end - place) c.loop-place.counts c.in_ok-of_place.of_place c.times.result c.plus-counts.result c.times.ensures.added c.times.ensures.removed sum.added sum.removed
          (λ p from low. alike-counts lines p place c.in_ok-of_place.of_place (c.alike_end-end.ensures.alike p from (omega (arith, far, low))) c.in_ok-of_place.ensures) c.loop-place.invariant.all);
    }

pub loop-place-preserved : goal.loop-place-preserved
loop-place-preserved g c =
    let lines = c.args.lines.now in
    let place = c.loop-place.place in
    let end = c.alike_end-end.result in
    let far = c.alike_end-end.ensures.further in
    let last : place + (end - place) ≡ end = omega (arith, far) in
    let stays = c.is_same.ensures c.if-not-is_same.false in
    let alike = c.alike_end-end.ensures.alike in
    record {
      within = c.alike_end-end.ensures.within;
      all = subst (λ e. AreCounted (below (came_at lines) e) (below (went_at lines) e) c.loop-place.counts) last
          (places-none (came_at lines) (went_at lines) place (end - place) c.loop-place.counts
          (λ p t from low. let same = alike p from (omega (arith, far, low)) t in (λ i. has_risen (same.1 i) (same.0 i)) ∙ none-came lines place stays t)
          (λ p t from low. let same = alike p from (omega (arith, far, low)) t in (λ i. has_risen (same.0 i) (same.1 i)) ∙ none-went lines place stays t) c.loop-place.invariant.all);
    }

pub returns : goal.returns
returns g c =
    let lines = c.args.lines.now in
    let len = c.len.ensures.len in
    let past = c.loop-place-test.false in
    let within = c.loop-place.invariant.within in
    let end : c.loop-place.place ≡ length lines.keys = omega (arith, len, past, within) in
    change-count lines c.len.ensures.apart.distinct c.loop-place.counts
    (subst (λ n. AreCounted (below (came_at lines) n) (below (went_at lines) n) c.loop-place.counts) end c.loop-place.invariant.all)
