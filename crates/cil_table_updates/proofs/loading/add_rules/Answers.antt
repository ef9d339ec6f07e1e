use Rattle.cil_table_updates.proofs.Common.{◌≡◌, ◌+◌, ◌∙◌, refl, ap, arith, length, subst, sym, ◌<◌, nat_lt, is_rule_below, adjustments_in, below, RisesBy, sum_below, count_now, rises-first, rises-next, rises-same, sum-more, sum-none, sum-part, comes, gives_it, given}
use Rattle.cil_table_updates.proofs.AdjustedLemmas.{counted-some}
use Rattle.cil_table_updates.proofs.GivenLemmas.{given-rule}
use Rattle.cil_table_updates.proofs.PlaceLemmas.{passes-at, read-at}
use Rattle.cil_table_updates.proofs.loading.add_rules.Goals as goal

pub loop-j-init : goal.loop-j-init
loop-j-init g c = record {
  settled = c.requires.settled;
  now = λ key t. let nothing = sum-none (given c.args.policy.now key t) in omega (arith, nothing);
  adjustments = rises-first (comes c.args.policy.now) (adjustments_in c.args.meter.now);
  evaluations = refl;
}

pub returns-in_err-add_rule-clause-bounded : goal.returns-in_err-add_rule-clause-bounded
returns-in_err-add_rule-clause-bounded g c key t =
    let policy = c.args.policy.now in
    let rules = policy.resolved.now.rules.items in
    let within = subst (λ l. c.loop-j.j < length l) c.rules-j-end.ensures.rules c.loop-j-test.true in
    let gives = given-rule policy key t c.loop-j.j c.index-rules-j.result (read-at c.rules.result.now rules c.loop-j.j c.index-rules-j.result c.rules.ensures.rules within c.index-rules-j.is) in
    let part = sum-part (given policy key t) c.loop-j.j (length rules) within in
    let put = c.loop-j.invariant.now key t in
    let one = c.in_err-add_rule.ensures.bounded key t in
    omega (arith, gives, part, put, one)

pub loop-j-preserved : goal.loop-j-preserved
loop-j-preserved g c =
    let policy = c.args.policy.now in
    let rules = policy.resolved.now.rules.items in
    let rule = c.index-rules-j.result in
    let within = subst (λ l. c.loop-j.j < length l) c.rules-j-end.ensures.rules c.loop-j-test.true in
    let read = read-at c.rules.result.now rules c.loop-j.j rule c.rules.ensures.rules within c.index-rules-j.is in
    record {
      settled = c.in_ok-add_rule.ensures.settled;
      now = λ key t.
          let gives = given-rule policy key t c.loop-j.j rule read in
          let more = sum-more (given policy key t) c.loop-j.j in
          let put = c.loop-j.invariant.now key t in
          let one = c.in_ok-add_rule.ensures.now key t in
          omega (arith, gives, more, put, one);
      adjustments =
          rises-next (comes policy) c.loop-j.j (adjustments_in c.args.meter.now) (adjustments_in c.loop-j.meter) (adjustments_in c.add_rule.new.meter) c.loop-j.invariant.adjustments
          (rises-same (gives_it policy rule) (comes policy c.loop-j.j) (adjustments_in c.loop-j.meter) (adjustments_in c.add_rule.new.meter)
          (λ x. counted-some (gives_it policy rule x) ∙ sym (ap (nat_lt 0) (given-rule policy x.key x.target c.loop-j.j rule read))) c.in_ok-add_rule.ensures.adjustments);
      evaluations = c.in_ok-add_rule.ensures.evaluations ∙ c.loop-j.invariant.evaluations;
    }

pub add_rule-requires-clause-below : goal.add_rule-requires-clause-below
add_rule-requires-clause-below g c =
    let rules = c.args.policy.now.resolved.now.rules.items in
    let within = subst (λ l. c.loop-j.j < length l) c.rules-j-end.ensures.rules c.loop-j-test.true in
    passes-at (is_rule_below (length c.args.policy.now.numbering.now.symbols)) rules c.loop-j.j c.index-rules-j.result c.requires.ready.below
    (read-at c.rules.result.now rules c.loop-j.j c.index-rules-j.result c.rules.ensures.rules within c.index-rules-j.is)

pub returns-clause-now : goal.returns-clause-now
returns-clause-now g c key t =
    let past = c.loop-j-test.false in
    let long = ap length c.rules-j-end.ensures.rules in
    let all : c.loop-j.j ≡ length c.args.policy.now.resolved.now.rules.items = omega (arith, past, long, c.loop-j.auto.j-end) in
    subst (λ n. count_now c.loop-j.lines key t ≡ count_now c.args.lines.now key t + sum_below (given c.args.policy.now key t) n) all (c.loop-j.invariant.now key t)

pub returns-clause-bounded : goal.returns-clause-bounded
returns-clause-bounded g c key t =
    let past = c.loop-j-test.false in
    let long = ap length c.rules-j-end.ensures.rules in
    let all : c.loop-j.j ≡ length c.args.policy.now.resolved.now.rules.items = omega (arith, past, long, c.loop-j.auto.j-end) in
    let now = subst (λ n. count_now c.loop-j.lines key t ≡ count_now c.args.lines.now key t + sum_below (given c.args.policy.now key t) n) all (c.loop-j.invariant.now key t) in
    omega (arith, now)

pub returns-clause-adjustments : goal.returns-clause-adjustments
returns-clause-adjustments g c =
    let past = c.loop-j-test.false in
    let long = ap length c.rules-j-end.ensures.rules in
    let all : c.loop-j.j ≡ length c.args.policy.now.resolved.now.rules.items = omega (arith, past, long, c.loop-j.auto.j-end) in
    subst (λ n. RisesBy (below (comes c.args.policy.now) n) (adjustments_in c.args.meter.now) (adjustments_in c.loop-j.meter)) all c.loop-j.invariant.adjustments
