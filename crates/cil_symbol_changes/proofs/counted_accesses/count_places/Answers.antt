use Rattle.cil_symbol_changes.proofs.Common.{◌≡◌, ◌+◌, ◌-◌, arith, below, length, present_at, rises-first, subst, RisesBy}
use Rattle.cil_symbol_changes.proofs.CountLemmas.{present-count}
use Rattle.cil_symbol_changes.proofs.WordCountLemmas.{place-more}
use Rattle.cil_symbol_changes.proofs.counted_accesses.count_places.Goals as goal

pub loop-place-init : goal.loop-place-init
loop-place-init g c = record { all = rises-first (present_at c.args.lines.now) 0; last = λ some. absurd (omega (arith, some)) }

pub loop-place-preserved : goal.loop-place-preserved
loop-place-preserved g c =
    let test = present_at c.args.lines.now in
    let place = c.loop-place.place in
    let of_place = c.in_ok-of_place.of_place in
    let last : place ≡ place + 1 - 1 = omega arith in
    record {
      all = place-more test place 0 c.loop-place.count of_place c.saturating_add-count.result c.saturating_add-count.ensures c.in_ok-of_place.ensures c.loop-place.invariant.all;
      last = λ some. subst (λ p. RisesBy (test p) 0 of_place) last c.in_ok-of_place.ensures;
    }

pub returns : goal.returns
returns g c =
    let len = c.len-place-end.ensures.len in
    let past = c.loop-place-test.false in
    let within = c.loop-place.auto.place-end in
    let end : c.loop-place.place ≡ length c.args.lines.now.keys = omega (arith, len, past, within) in
    present-count c.args.lines.now c.len-place-end.ensures.apart.distinct c.loop-place.count
    (subst (λ n. RisesBy (below (present_at c.args.lines.now) n) 0 c.loop-place.count) end c.loop-place.invariant.all)
