use Rattle.cil_violations.proofs.Common.{◌∙◌, ℕ, Contains, sym, ap, subst, filter, flat_map, list_any, take_all, is_set_rule, permissions_at, rules_in, share, stood_for}
use Rattle.cil_violations.proofs.MeaningLemmas.{agree}
use Rattle.cil_violations.proofs.MetLemmas.{head-within_at, met-all, met-plain}
use Rattle.cil_violations.proofs.search.Search.meet.Goals as goal

pub share_permission-requires-clause-allowed : goal.share_permission-requires-clause-allowed
share_permission-requires-clause-allowed g c =
    head-within_at c.args.self.now c.requires.search c.args.never c.heads.new.list.items (c.in_ok-heads.ensures c.requires.search.index)
    c.as_slice-head-items.result.now c.loop-head.head-index c.as_slice-head-items.ensures.value c.loop-head-test.true

pub push_stood_for-requires-clause-head : goal.push_stood_for-requires-clause-head
push_stood_for-requires-clause-head g c =
    head-within_at c.args.self.now c.requires.search c.args.never c.heads.new.list.items (c.in_ok-heads.ensures c.requires.search.index)
    c.as_slice-head-items.result.now c.loop-head.head-index c.as_slice-head-items.ensures.value c.loop-head-test.true

pub returns-then-are_of_sets-2 : goal.returns-then-are_of_sets-2
returns-then-are_of_sets-2 g c =
    let s = c.args.self.now in
    let is = c.requires.search in
    let all = take_all c.loop-head.head-index c.as_slice-head-items.result.now c.loop-head-test.false ∙ c.as_slice-head-items.ensures.value in
    let listed = c.loop-head.invariant.list ∙ ap (λ l. flat_map (stood_for (rules_in s)) (filter (λ h. share (permissions_at s c.args.never) (permissions_at s h)) l)) all in
    let ordered = c.put_in_order.ensures in
    met-all s is (agree s.resolved.now s.permissions.now.0 is.permissions) c.args.never is.index.holds.heads is.index.holds.are c.heads.new.list.items (c.in_ok-heads.ensures is.index)
    c.put_in_order.new.numbers.items ordered.rising
    (λ j. (
      λ there. subst (λ l. Contains l j) listed ((ordered.same j).0 there),
      λ there. (ordered.same j).1 (subst (λ l. Contains l j) (sym listed) there),
    ))

pub returns-else-are_of_sets-2 : goal.returns-else-are_of_sets-2
returns-else-are_of_sets-2 g c =
    let s = c.args.self.now in
    let is = c.requires.search in
    let shares = λ (h : ℕ). share (permissions_at s c.args.never) (permissions_at s h) in
    let all = take_all c.loop-head.head-index c.as_slice-head-items.result.now c.loop-head-test.false ∙ c.as_slice-head-items.ensures.value in
    c.loop-head.invariant.list ∙ ap (λ l. flat_map (stood_for (rules_in s)) (filter shares l)) all
    ∙ met-plain s is (agree s.resolved.now s.permissions.now.0 is.permissions) c.args.never is.index.holds.heads is.index.holds.are c.heads.new.list.items (c.in_ok-heads.ensures is.index)
    (sym (c.loop-head.invariant.sets ∙ ap (λ l. list_any (is_set_rule (rules_in s)) (filter shares l)) all) ∙ c.if-are_of_sets-2.false)
