use Rattle.cil_recorded.proofs.Common.{◌∙◌, ap, arith, with_items_is, balance_at}
use Rattle.cil_recorded.proofs.TurnLemmas.{IfOk-map}
use Rattle.cil_recorded.proofs.turn.net_turns.Goals as goal

pub merge-requires : goal.merge-requires
merge-requires g c =
    let stored = c.deref.ensures.value ∙ with_items_is c.in_ok-turns.turns c.sort.new.turns (c.sort.auto.turns ∙ c.deref_mut.ensures.len) in
    rw stored c.in_ok-sort.ensures.sorted

pub returns-clause-turned : goal.returns-clause-turned
returns-clause-turned g c =
    let stored = c.deref.ensures.value ∙ with_items_is c.in_ok-turns.turns c.sort.new.turns (c.sort.auto.turns ∙ c.deref_mut.ensures.len) in
    IfOk-map c.merge.result
    (λ v same l t.
    let sorted = ap (λ xs. balance_at xs l t) stored in
    let before = ap (λ xs. balance_at xs l t) c.deref_mut.ensures.value in
    omega (arith, same l t, sorted, c.in_ok-sort.ensures.turned l t, before, c.in_ok-turns.ensures l t))
    c.merge.ensures.turned
