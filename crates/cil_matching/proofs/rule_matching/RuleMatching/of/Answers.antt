use Rattle.cil_matching.proofs.Common.{◌≡◌, ◌∙◌, ◌↔◌, ◌<◌, length, slice_get, Some, sym, ap, subst, arith, IsSameRule, meaning_in, rule_spot}
use Rattle.cil_matching.proofs.ApartLemmas.{rules-agree, apart-rules}
use Rattle.cil_matching.proofs.MatchedLemmas.{places-apart, places-below, matched-by}
use Rattle.cil_matching.proofs.rule_matching.RuleMatching.of.Goals as goal

pub inverse-requires-clause-below : goal.inverse-requires-clause-below
inverse-requires-clause-below g c = λ i j at.
    let olds = (meaning_in c.args.old.now).rules in
    let news = (meaning_in c.args.new.now).rules in
    subst (λ n. j < n) (sym c.rules_len.ensures)
    (places-below IsSameRule olds news (length olds) c.in_ok-ahead.ahead.items (omega arith) c.in_ok-ahead.ensures i j (ap (λ l. slice_get l i) (sym c.deref.ensures.value) ∙ at))

pub inverse-requires-clause-apart : goal.inverse-requires-clause-apart
inverse-requires-clause-apart g c = λ i k j first second.
    let olds = (meaning_in c.args.old.now).rules in
    let news = (meaning_in c.args.new.now).rules in
    places-apart IsSameRule olds news rule_spot rules-agree (length olds) c.in_ok-ahead.ahead.items (apart-rules olds c.resolved_rules_are_in_order.ensures) (omega arith) c.in_ok-ahead.ensures i k j
    (ap (λ l. slice_get l i) (sym c.deref.ensures.value) ∙ first) (ap (λ l. slice_get l k) (sym c.deref.ensures.value) ∙ second)

pub returns : goal.returns
returns g c =
    let olds = (meaning_in c.args.old.now).rules in
    let news = (meaning_in c.args.new.now).rules in
    matched-by IsSameRule olds news (length olds) c.in_ok-ahead.ahead.items c.in_ok-back.back.items (omega arith) c.in_ok-ahead.ensures
    (λ i j. subst (λ l. (slice_get c.in_ok-back.back.items j ≡ Some (Some i)) ↔ (slice_get l i ≡ Some (Some j))) c.deref.ensures.value (c.in_ok-back.ensures i j))
