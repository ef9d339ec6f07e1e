use Rattle.cil_needs.proofs.Common.{◌≡◌, ◌≢◌, ◌<◌, ◌+◌, true, false, length, None, get_or, replicate, sym, ◌∙◌, subst, arith, All, get_or-set_other, get_or-replicate, length-replicate, length-set, nil_from_length, range_with_len, AreReopened, is_met, is_need_below, Need}
use Rattle.cil_needs.proofs.GreatestLemmas.{has_kept, AreSettled, IsAbove, looked, tested-met, tested-unmet, unmet-kept, measure-less, reopened-below, settled-all, above-all, range-below, settled-met, settled-taken, settled-none, above-taken}
use Rattle.cil_needs.proofs.greatest.greatest_set.Goals as goal

-- what stands in a list where it has nothing
abbrev no-need : Need
no-need = record { optional = 0; first = None; second = None }

pub loop-i-init : goal.loop-i-init
loop-i-init g c =
    let needs = c.args.needs.now in
    let count = c.args.count in
    let kept : replicate (count + 1) true ≡ c.in_ok-kept.kept.items = sym c.in_ok-kept.ensures in
    let all : range_with_len 0 (length needs) ≡ c.in_ok-open.open.items = sym c.in_ok-open.ensures in
    record {
      len = subst (λ l. length l ≡ count + 1) kept (length-replicate (count + 1) true);
      outside = subst (λ l. get_or l 0 false ≡ true) kept (get_or-replicate (count + 1) 0 true false (omega arith));
      above = subst (λ l. IsAbove count l needs) kept (above-all count needs);
      within = subst (All (λ i. i < length needs)) all (range-below (length needs));
      settled = subst (AreSettled c.in_ok-kept.kept.items needs) all (settled-all c.in_ok-kept.kept.items needs);
    }

pub is_unmet-requires : goal.is_unmet-requires
is_unmet-requires g c =
    let is = looked c.args.count c.loop-i.kept.items c.args.needs.now c.loop-i.open.items c.pop.new.self.items c.in-Some.i no-need c.requires.below c.loop-i.invariant.len c.loop-i.invariant.within c.in-Some.ensures.items in
    subst (λ kept. is_need_below (length kept) (get_or c.args.needs.now c.in-Some.i no-need) ≡ true) (sym c.deref.ensures.value) is.below

pub loop-i-smaller-then-is_unmet : goal.loop-i-smaller-then-is_unmet
loop-i-smaller-then-is_unmet g c =
    let need = get_or c.args.needs.now c.in-Some.i no-need in
    let kept = c.loop-i.kept.items in
    let before = c.loop-i.open.items in
    let waiting = c.pop.new.self.items in
    let after = c.reopen.new.waiting.items in
    let is = looked c.args.count kept c.args.needs.now before waiting c.in-Some.i no-need c.requires.below c.loop-i.invariant.len c.loop-i.invariant.within c.in-Some.ensures.items in
    let unmet : is_met (has_kept kept) need ≡ false = tested-unmet kept c.deref.result.now need c.is_unmet.result c.deref.ensures.value c.is_unmet.ensures c.if-is_unmet.true in
    let dependents = c.in_ok-dependents.dependents.items in
    let opened : AreReopened dependents need.optional waiting after = subst (λ l. AreReopened l need.optional waiting after) c.deref-then-is_unmet.ensures.value c.in_ok-reopen.ensures in
    measure-less kept need.optional dependents before waiting after c.in-Some.i is.within (unmet-kept (has_kept kept) need unmet) c.in-Some.ensures.items opened

pub loop-i-preserved-then-is_unmet : goal.loop-i-preserved-then-is_unmet
loop-i-preserved-then-is_unmet g c =
    let needs = c.args.needs.now in
    let need = get_or needs c.in-Some.i no-need in
    let kept = c.loop-i.kept.items in
    let dependents = c.in_ok-dependents.dependents.items in
    let before = c.loop-i.open.items in
    let waiting = c.pop.new.self.items in
    let after = c.reopen.new.waiting.items in
    let is = looked c.args.count kept needs before waiting c.in-Some.i no-need c.requires.below c.loop-i.invariant.len c.loop-i.invariant.within c.in-Some.ensures.items in
    let unmet : is_met (has_kept kept) need ≡ false = tested-unmet kept c.deref.result.now need c.is_unmet.result c.deref.ensures.value c.is_unmet.ensures c.if-is_unmet.true in
    let opened : AreReopened dependents need.optional waiting after = subst (λ l. AreReopened l need.optional waiting after) c.deref-then-is_unmet.ensures.value c.in_ok-reopen.ensures in
    let other : 0 ≢ need.optional = (let low = is.low in omega (arith, low)) in
    record {
      len = ◌∙◌ {b = length kept} (length-set kept need.optional false) c.loop-i.invariant.len;
      outside = ◌∙◌ {b = get_or kept 0 false} (get_or-set_other kept need.optional 0 false false other) c.loop-i.invariant.outside;
      above = above-taken c.args.count kept needs c.in-Some.i need c.requires.below c.loop-i.invariant.above is.at unmet;
      within = reopened-below dependents need.optional (length needs) waiting after c.in_ok-dependents.ensures.within opened is.rest;
      settled = settled-taken kept needs before waiting after c.in-Some.i need dependents c.loop-i.invariant.settled c.in-Some.ensures.items is.at is.within c.in_ok-dependents.ensures.each opened;
    }

pub loop-i-preserved : goal.loop-i-preserved
loop-i-preserved g c =
    let needs = c.args.needs.now in
    let need = get_or needs c.in-Some.i no-need in
    let kept = c.loop-i.kept.items in
    let waiting = c.pop.new.self.items in
    let i = c.in-Some.i in
    let is = looked c.args.count kept needs c.loop-i.open.items waiting i no-need c.requires.below c.loop-i.invariant.len c.loop-i.invariant.within c.in-Some.ensures.items in
    let met : is_met (has_kept kept) need ≡ true = tested-met kept c.deref.result.now need c.is_unmet.result c.deref.ensures.value c.is_unmet.ensures c.if-is_unmet.false in
    record {
      len = c.loop-i.invariant.len;
      outside = c.loop-i.invariant.outside;
      above = c.loop-i.invariant.above;
      within = is.rest;
      settled = settled-met kept needs c.loop-i.open.items waiting i need c.loop-i.invariant.settled c.in-Some.ensures.items is.at met;
    }

pub returns-clause-met : goal.returns-clause-met
returns-clause-met g c =
    let length-is : c.loop-i.open.len ≡ length c.loop-i.open.items = c.loop-i.open.ok.0 in
    let none : length c.loop-i.open.items ≡ 0 = omega (arith, length-is, c.in_default.ensures.cases.0) in
    settled-none c.loop-i.kept.items c.args.needs.now (subst (AreSettled c.loop-i.kept.items c.args.needs.now) (nil_from_length c.loop-i.open.items none) c.loop-i.invariant.settled)
