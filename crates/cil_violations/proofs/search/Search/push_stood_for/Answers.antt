use Rattle.cil_violations.proofs.Common.{◌∙◌, ◌++◌, ◌<◌, length, None, sym, ap, subst, arith, get_or_default, is_rule_below, IsChain, names_in, rules_in, rules_of_set, stood_by, stood_by_at}
use Rattle.cil_violations.proofs.IndexLemmas.{set-below}
use Rattle.cil_violations.proofs.TestLemmas.{all-at}
use Rattle.cil_violations.proofs.search.Search.push_stood_for.Goals as goal

pub index-first-requires : goal.index-first-requires
index-first-requires g c =
    let s = c.args.self.now in
    let below = all-at (is_rule_below (names_in s)) (rules_in s) c.args.head c.rule.result.now s.resolved.now.rules_within c.rule.ensures in
    let low = set-below (names_in s) c.rule.result.now c.in-OfSet.set below c.in-OfSet.is in
    let room = c.requires.search.index.sets_len in
    omega (arith, low, room, s.index.now.of_set.ok.0)

pub push_chain-requires : goal.push_chain-requires
push_chain-requires g c =
    let s = c.args.self.now in
    let set = c.in-OfSet.set.set in
    let below = all-at (is_rule_below (names_in s)) (rules_in s) c.args.head c.rule.result.now s.resolved.now.rules_within c.rule.ensures in
    let low : set < length s.index.now.of_set.items = (let under = set-below (names_in s) c.rule.result.now c.in-OfSet.set below c.in-OfSet.is in let room = c.requires.search.index.sets_len in omega (arith, under, room)) in (
      rules_of_set (rules_in s) 0 set,
      subst (IsChain s.index.now.links.items (rules_of_set (rules_in s) 0 set)) (get_or_default s.index.now.of_set.items set None c.index-first.result.now low ∙ sym c.index-first.ensures)
          (c.requires.search.index.holds.sets set low),
    )

pub returns-in_ok-push_chain-in-OfSet-clause-rules : goal.returns-in_ok-push_chain-in-OfSet-clause-rules
returns-in_ok-push_chain-in-OfSet-clause-rules g c =
    let s = c.args.self.now in
    let set = c.in-OfSet.set.set in
    let below = all-at (is_rule_below (names_in s)) (rules_in s) c.args.head c.rule.result.now s.resolved.now.rules_within c.rule.ensures in
    let low : set < length s.index.now.of_set.items = (let under = set-below (names_in s) c.rule.result.now c.in-OfSet.set below c.in-OfSet.is in let room = c.requires.search.index.sets_len in omega (arith, under, room)) in
    let chain =
    subst (IsChain s.index.now.links.items (rules_of_set (rules_in s) 0 set)) (get_or_default s.index.now.of_set.items set None c.index-first.result.now low ∙ sym c.index-first.ensures)
    (c.requires.search.index.holds.sets set low) in
    c.in_ok-push_chain-in-OfSet.ensures (rules_of_set (rules_in s) 0 set) chain
    ∙ sym (ap (λ l. c.args.list.now.items ++ l) (ap (stood_by_at (rules_in s) c.args.head) c.rule.ensures ∙ ap (stood_by (rules_in s) c.args.head) c.in-OfSet.is))
