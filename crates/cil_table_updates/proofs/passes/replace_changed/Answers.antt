use Rattle.cil_table_updates.proofs.Common.{◌≡◌, ℕ, ◌+◌, ◌≤◌, ◌<◌, ◌==◌, ◌∙◌, sym, ap, arith, length, not, subst, Some, same_Some, slice_get, slice_get_within, on_ok_weaker, is_rule_below, adjustments_in, one_if, rises-none, rises-same, SymbolKey, NumberedRule, count_now, gives_by, gives_it, replaces, swaps, given, is_plain_list, PermitTheSame}
use Rattle.cil_table_updates.proofs.AdjustedLemmas.{counted-other, no-other}
use Rattle.cil_table_updates.proofs.GivenLemmas.{given-rule}
use Rattle.cil_table_updates.proofs.MoveLemmas.{stays-given}
use Rattle.cil_table_updates.proofs.PlaceLemmas.{passes-at, read-there}
use Rattle.cil_table_updates.specs.Moves.{IsRuleOf}
use Rattle.cil_table_updates.proofs.passes.replace_changed.Given as given_by
use Rattle.cil_table_updates.proofs.passes.replace_changed.Goals as goal
use Rattle.cil_table_updates.proofs.passes.replace_changed.Goals.{After-index-rules-j}

pub bounds-rules-i : goal.bounds-rules-i
bounds-rules-i g c =
    subst (λ l. c.args.stayed.now.i < length l) (sym c.rules.ensures.rules) (slice_get_within c.args.stayed.now.update.now.old.now.resolved.now.rules.items c.args.stayed.now.i c.requires.replaced.old_rule c.requires.replaced.here)

pub offset_bounds-rules-i : goal.offset_bounds-rules-i
offset_bounds-rules-i g c =
    let within =
    subst (λ l. c.args.stayed.now.i < length l) (sym c.rules.ensures.rules) (slice_get_within c.args.stayed.now.update.now.old.now.resolved.now.rules.items c.args.stayed.now.i c.requires.replaced.old_rule c.requires.replaced.here) in
    omega (arith, within)

pub bounds-rules-j : goal.bounds-rules-j
bounds-rules-j g c =
    subst (λ l. c.args.stayed.now.j < length l) (sym c.rules-2.ensures.rules) (slice_get_within c.args.stayed.now.update.now.new.now.resolved.now.rules.items c.args.stayed.now.j c.requires.replaced.new_rule c.requires.replaced.there)

pub offset_bounds-rules-j : goal.offset_bounds-rules-j
offset_bounds-rules-j g c =
    let within =
    subst (λ l. c.args.stayed.now.j < length l) (sym c.rules-2.ensures.rules) (slice_get_within c.args.stayed.now.update.now.new.now.resolved.now.rules.items c.args.stayed.now.j c.requires.replaced.new_rule c.requires.replaced.there) in
    omega (arith, within)

-- the rules that are read stand at their places, and their names have symbols
old_there : (g : given_by.Over) (c : After-index-rules-j g) → slice_get c.args.stayed.now.update.now.old.now.resolved.now.rules.items c.args.stayed.now.i ≡ Some c.index-rules-i.result
old_there g c = read-there c.rules.result.now c.args.stayed.now.update.now.old.now.resolved.now.rules.items c.args.stayed.now.i c.index-rules-i.result _ c.rules.ensures.rules c.requires.replaced.here c.index-rules-i.is

new_there : (g : given_by.Over) (c : After-index-rules-j g) → slice_get c.args.stayed.now.update.now.new.now.resolved.now.rules.items c.args.stayed.now.j ≡ Some c.index-rules-j.result
new_there g c = read-there c.rules-2.result.now c.args.stayed.now.update.now.new.now.resolved.now.rules.items c.args.stayed.now.j c.index-rules-j.result _ c.rules-2.ensures.rules c.requires.replaced.there c.index-rules-j.is

old_below : (g : given_by.Over) (c : After-index-rules-j g) → IsRuleOf c.args.stayed.now.update.now.old.now c.index-rules-i.result
old_below g c = passes-at (is_rule_below (length c.args.stayed.now.update.now.old.now.numbering.now.symbols)) c.args.stayed.now.update.now.old.now.resolved.now.rules.items c.args.stayed.now.i c.index-rules-i.result c.requires.old_ready.below (old_there g c)

new_below : (g : given_by.Over) (c : After-index-rules-j g) → IsRuleOf c.args.stayed.now.update.now.new.now c.index-rules-j.result
new_below g c = passes-at (is_rule_below (length c.args.stayed.now.update.now.new.now.numbering.now.symbols)) c.args.stayed.now.update.now.new.now.resolved.now.rules.items c.args.stayed.now.j c.index-rules-j.result c.requires.new_ready.below (new_there g c)

-- they are those that are said to be replaced
old_same : (g : given_by.Over) (c : After-index-rules-j g) → c.requires.replaced.old_rule ≡ c.index-rules-i.result
old_same g c = same_Some c.requires.replaced.old_rule c.index-rules-i.result (sym c.requires.replaced.here ∙ old_there g c)

new_same : (g : given_by.Over) (c : After-index-rules-j g) → c.requires.replaced.new_rule ≡ c.index-rules-j.result
new_same g c = same_Some c.requires.replaced.new_rule c.index-rules-j.result (sym c.requires.replaced.there ∙ new_there g c)

pub rule_stays-requires-clause-old_below : goal.rule_stays-requires-clause-old_below
rule_stays-requires-clause-old_below g c = old_below g (goal.at.rule_stays-requires-clause-old_below g c).After-index-rules-j

pub rule_stays-requires-clause-new_below : goal.rule_stays-requires-clause-new_below
rule_stays-requires-clause-new_below g c = new_below g (goal.at.rule_stays-requires-clause-new_below g c).After-index-rules-j

pub rule_stays-requires-clause-plain : goal.rule_stays-requires-clause-plain
rule_stays-requires-clause-plain g c plain =
    let at = (goal.at.rule_stays-requires-clause-plain g c).After-index-rules-j in
    subst (λ (r : NumberedRule g.row.A.Denot). PermitTheSame c.args.stayed.now.update.now.old.now r c.args.stayed.now.update.now.new.now c.index-rules-j.result) (old_same g at)
    (subst (λ (r : NumberedRule g.row.A.Denot). PermitTheSame c.args.stayed.now.update.now.old.now c.requires.replaced.old_rule c.args.stayed.now.update.now.new.now r) (new_same g at)
    (c.requires.replaced.permits (ap is_plain_list (new_same g at) ∙ plain)))

pub returns-then-stays-clause-now : goal.returns-then-stays-clause-now
returns-then-stays-clause-now g c key t =
    let at = (goal.at.returns-then-stays-clause-now g c).After-index-rules-j in
    ap (λ n. count_now c.args.lines.now key t + n)
    (stays-given c.args.stayed.now.update.now.changed.now c.args.stayed.now.update.now.old.now c.args.stayed.now.i c.args.stayed.now.update.now.new.now c.args.stayed.now.j c.requires.replaced c.index-rules-i.result c.index-rules-j.result (old_there g at) (new_there g at)
    (c.in_ok-stays.ensures.reach c.if-stays.true) (c.in_ok-stays.ensures.permits c.if-stays.true) key t)

pub returns-then-stays-clause-adjustments : goal.returns-then-stays-clause-adjustments
returns-then-stays-clause-adjustments g c =
    let at = (goal.at.returns-then-stays-clause-adjustments g c).After-index-rules-j in
    rises-none (swaps c.args.stayed.now.update.now.old.now c.args.stayed.now.i c.args.stayed.now.update.now.new.now c.args.stayed.now.j) (adjustments_in c.args.meter.now)
    (λ x. no-other (given c.args.stayed.now.update.now.old.now x.key x.target c.args.stayed.now.i) (given c.args.stayed.now.update.now.new.now x.key x.target c.args.stayed.now.j)
    (stays-given c.args.stayed.now.update.now.changed.now c.args.stayed.now.update.now.old.now c.args.stayed.now.i c.args.stayed.now.update.now.new.now c.args.stayed.now.j c.requires.replaced c.index-rules-i.result c.index-rules-j.result (old_there g at) (new_there g at)
    (c.in_ok-stays.ensures.reach c.if-stays.true) (c.in_ok-stays.ensures.permits c.if-stays.true) x.key x.target))

pub replace_rule-requires-clause-old_below : goal.replace_rule-requires-clause-old_below
replace_rule-requires-clause-old_below g c = old_below g (goal.at.replace_rule-requires-clause-old_below g c).After-index-rules-j

pub replace_rule-requires-clause-new_below : goal.replace_rule-requires-clause-new_below
replace_rule-requires-clause-new_below g c = new_below g (goal.at.replace_rule-requires-clause-new_below g c).After-index-rules-j

pub replace_rule-requires-clause-kind : goal.replace_rule-requires-clause-kind
replace_rule-requires-clause-kind g c =
    let at = (goal.at.replace_rule-requires-clause-kind g c).After-index-rules-j in
    sym (ap (λ (r : NumberedRule g.row.A.Denot). r.kind) (old_same g at)) ∙ c.requires.replaced.kind ∙ ap (λ (r : NumberedRule g.row.A.Denot). r.kind) (new_same g at)

pub replace_rule-requires-clause-counted : goal.replace_rule-requires-clause-counted
replace_rule-requires-clause-counted g c key t =
    let read = old_there g (goal.at.replace_rule-requires-clause-counted g c).After-index-rules-j in
    subst (λ n. n ≤ count_now c.args.lines.now key t) (given-rule c.args.stayed.now.update.now.old.now key t c.args.stayed.now.i c.index-rules-i.result read) (c.requires.counted key t)

pub returns : goal.returns
returns g c =
    let old = c.args.stayed.now.update.now.old.now in
    let new = c.args.stayed.now.update.now.new.now in
    let i = c.args.stayed.now.i in
    let j = c.args.stayed.now.j in
    let rule = c.index-rules-i.result in
    let other = c.index-rules-j.result in
    let at = (goal.at.returns g c).After-index-rules-j in
    let gave : (key : SymbolKey) (t : ℕ) → given old key t i ≡ one_if (gives_by old key t rule) =
    λ key t. given-rule old key t i rule (old_there g at) in
    let gives : (key : SymbolKey) (t : ℕ) → given new key t j ≡ one_if (gives_by new key t other) =
    λ key t. given-rule new key t j other (new_there g at) in
    record {
      now =
          on_ok_weaker c.replace_rule.result
          (λ moved key t. let was = gave key t in let is = gives key t in let step = moved key t in omega (arith, was, is, step))
          c.replace_rule.ensures.now;
      before = c.replace_rule.ensures.before;
      bounded = λ key t. let is = gives key t in omega (arith, c.replace_rule.ensures.bounded key t, is);
      adjustments =
          on_ok_weaker c.replace_rule.result
          (rises-same (replaces old rule new other) (swaps old i new j) (adjustments_in c.args.meter.now) (adjustments_in c.replace_rule.new.meter)
          (λ x. counted-other (gives_it old rule x) (gives_it new other x)
          ∙ sym (ap (λ n. not (n == one_if (gives_it new other x))) (gave x.key x.target))
          ∙ sym (ap (λ n. not (given old x.key x.target i == n)) (gives x.key x.target))))
          c.replace_rule.ensures.adjustments;
      evaluations = c.replace_rule.ensures.evaluations;
    }
