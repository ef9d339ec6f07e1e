use Rattle.cil_matching.proofs.Common.{◌≡◌, ◌↔◌, Some, subst, sym, IsSameRule, meaning_in, AreSameAt}
use Rattle.cil_matching.proofs.PlaceLemmas.{contents-tell, read-no-list, read-rule, rule-tested}
use Rattle.cil_matching.proofs.rule_places.same.Goals as goal

pub is_same_content-requires-clause-rule : goal.is_same_content-requires-clause-rule
is_same_content-requires-clause-rule g c =
    let old = c.args.old.now in
    let x = c.index-rules-i.result in
    read-no-list old c.args.i x (read-rule old c.args.i x c.rules.result.now c.requires.within c.rules.ensures.rules c.index-rules-i.is)

pub is_same_content-requires-clause-other : goal.is_same_content-requires-clause-other
is_same_content-requires-clause-other g c =
    let new = c.args.new.now in
    let y = c.index-rules-j.result in
    read-no-list new c.args.j y (read-rule new c.args.j y c.rules-2.result.now c.requires.found.within c.rules-2.ensures.rules c.index-rules-j.is)

pub returns : goal.returns
returns g c k =
    let old = c.args.old.now in
    let new = c.args.new.now in
    let x = c.index-rules-i.result in
    let y = c.index-rules-j.result in
    subst (λ place. (place ≡ Some k) ↔ AreSameAt IsSameRule (meaning_in old).rules (meaning_in new).rules c.args.i k) (sym c.then_some.ensures)
    (rule-tested (meaning_in old).rules (meaning_in new).rules c.args.i c.args.j c.requires.within new.rules_ordered c.requires.found c.is_same_content.result
    (contents-tell old new c.args.numbers.now c.requires.numbers c.args.i c.args.j x y c.is_same_content.result (read-rule old c.args.i x c.rules.result.now c.requires.within c.rules.ensures.rules c.index-rules-i.is)
    (read-rule new c.args.j y c.rules-2.result.now c.requires.found.within c.rules-2.ensures.rules c.index-rules-j.is) c.is_same_content.ensures) k)
