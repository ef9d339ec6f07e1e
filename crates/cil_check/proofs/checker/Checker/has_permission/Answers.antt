use Rattle.cil_check.proofs.Common.{◌≤◌, ◌||◌, ◌+◌, length, drop, subst, sym, ap, ◌∙◌, has_name, word_at, list_at, names_listed}
use Rattle.cil_check.proofs.MissingLemmas.{has-own, has-inherited, has-step, has-listed-past}
use Rattle.cil_check.proofs.checker.Checker.has_permission.Goals as goal

pub returns-then-has : goal.returns-then-has
returns-then-has g c policy s noted at first less =
    sym (has-own policy s (word_at c.args.self.now.bound.policy.now.names c.args.word) (sym (noted.listed c.args.class s at c.args.word less) ∙ sym c.has.ensures ∙ c.if-has.true))

pub loop-common-init : goal.loop-common-init
loop-common-init g c = λ policy s noted at first less.
    has-inherited policy c.args.self.now.inherited c.args.class s (word_at c.args.self.now.bound.policy.now.names c.args.word) noted.inherited at first
    (sym (noted.listed c.args.class s at c.args.word less) ∙ sym c.has.ensures ∙ c.if-has.false)

pub returns-then-has-2 : goal.returns-then-has-2
returns-then-has-2 g c policy s noted at first less =
    let checker = c.args.self.now in
    let names = checker.bound.policy.now.names in
    let i = c.loop-common.common-index in
    let rest = names_listed policy (drop (i + 1) (list_at checker.inherited c.args.class)) in
    sym (c.loop-common.invariant policy s noted at first less
    ∙ has-step names policy checker.inherited checker.permissions.listed.keys c.get-common-items.result.now c.args.class c.args.word i c.has-in-loop-common.result noted.inherited noted.listed c.get-common-items.ensures
    c.loop-common-test.true less c.has-in-loop-common.ensures
    ∙ ap (λ b. b || has_name rest (word_at names c.args.word)) c.if-has-2.true)

pub loop-common-preserved : goal.loop-common-preserved
loop-common-preserved g c = λ policy s noted at first less.
    let checker = c.args.self.now in
    let names = checker.bound.policy.now.names in
    let i = c.loop-common.common-index in
    let rest = names_listed policy (drop (i + 1) (list_at checker.inherited c.args.class)) in
    c.loop-common.invariant policy s noted at first less
    ∙ has-step names policy checker.inherited checker.permissions.listed.keys c.get-common-items.result.now c.args.class c.args.word i c.has-in-loop-common.result noted.inherited noted.listed c.get-common-items.ensures
    c.loop-common-test.true less c.has-in-loop-common.ensures
    ∙ ap (λ b. b || has_name rest (word_at names c.args.word)) c.if-has-2.false

pub returns : goal.returns
returns g c policy s noted at first less =
    let checker = c.args.self.now in
    let i = c.loop-common.common-index in
    let past : length (list_at checker.inherited c.args.class) ≤ i = subst (λ l. length l ≤ i) c.get-common-items.ensures c.loop-common-test.false in
    sym (c.loop-common.invariant policy s noted at first less ∙ has-listed-past policy (list_at checker.inherited c.args.class) i (word_at checker.bound.policy.now.names c.args.word) past)
