use Rattle.std.proofs.Common.{◌≡◌, ◌+◌, ◌≤◌, ◌∙◌, ℕ, Bool, IfOk, List, OnOk, ap, subst, sym}
use Rattle.cil_rule_shifts.proofs.Common.{count_now, has_permit, one_if, Permit, RisesBy, SymbolKey}
use Rattle.cil_rule_shifts.proofs.OtherLemmas.{come-bounded, come-counted, gives_by, kept-bounded, kept-counted, lost-bounded, lost-counted, moves_by, others-moved, others-rise}
use Rattle.cil_rule_shifts.proofs.PermitLemmas.{same-permits}
use Rattle.cil_rule_shifts.proofs.shift.shift_rule.Given as given
use Rattle.cil_rule_shifts.proofs.shift.shift_rule.Goals as goal
use Rattle.cil_rule_shifts.proofs.shift.shift_rule.Goals.{After-shift_permits-4}

-- where the permits are the same
pub shift_permits-requires-clause-counted : goal.shift_permits-requires-clause-counted
shift_permits-requires-clause-counted g c k t =
    subst (λ (permits : List Permit). one_if (gives_by c.args.kind c.args.was.reach.now permits k t) ≤ count_now c.args.lines.now k t)
    (same-permits c.args.was.permits.now c.args.is.permits.now (sym c.eq.ensures ∙ c.if-eq.true)) (c.requires.counted k t)

pub returns-then-eq-clause-now : goal.returns-then-eq-clause-now
returns-then-eq-clause-now g c =
    subst (λ (permits : List Permit). OnOk c.shift_permits.result ((k : SymbolKey) (t : ℕ)
    → count_now c.shift_permits.new.lines k t + one_if (gives_by c.args.kind c.args.was.reach.now permits k t)
    ≡ count_now c.args.lines.now k t + one_if (gives_by c.args.kind c.args.is.reach.now c.args.is.permits.now k t)))
    (sym (same-permits c.args.was.permits.now c.args.is.permits.now (sym c.eq.ensures ∙ c.if-eq.true))) c.shift_permits.ensures.now

pub returns-then-eq-clause-moved : goal.returns-then-eq-clause-moved
returns-then-eq-clause-moved g c =
    subst (λ (permits : List Permit). IfOk c.shift_permits.result (RisesBy (moves_by c.args.kind c.args.was.reach.now permits c.args.is.reach.now c.args.is.permits.now) 0))
    (sym (same-permits c.args.was.permits.now c.args.is.permits.now (sym c.eq.ensures ∙ c.if-eq.true))) c.shift_permits.ensures.moved

-- what a list has the same list has that is lent
through : {xs ys : List Permit} {q : ℕ → ℕ → Bool} → xs ≡ ys → ((d p : ℕ) → has_permit ys d p ≡ q d p) → (d p : ℕ) → has_permit xs d p ≡ q d p
through same those d p = ap (λ xs. has_permit xs d p) same ∙ those d p

pub shift_permits-requires-2-clause-counted : goal.shift_permits-requires-2-clause-counted
shift_permits-requires-2-clause-counted g c k t =
    lost-counted c.args.kind c.args.was.reach.now c.args.is.reach.now c.none-none.result c.args.was.permits.now c.args.is.permits.now c.deref-permits.result.now c.in_ok-kept.kept.items c.in_ok-come.come.items c.none-none.ensures.none
    (through c.deref-permits.ensures.value c.in_ok-gone.ensures.those) c.in_ok-kept.ensures.those c.in_ok-come.ensures.those k t (count_now c.args.lines.now k t) (c.requires.counted k t)

pub returns-in_err-lost-clause-bounded : goal.returns-in_err-lost-clause-bounded
returns-in_err-lost-clause-bounded g c k t =
    lost-bounded c.args.kind c.args.was.reach.now c.args.is.reach.now c.none-none.result c.args.was.permits.now c.args.is.permits.now c.deref-permits.result.now c.in_ok-kept.kept.items c.in_ok-come.come.items c.none-none.ensures.none
    (through c.deref-permits.ensures.value c.in_ok-gone.ensures.those) c.in_ok-kept.ensures.those c.in_ok-come.ensures.those k t (count_now c.args.lines.now k t) (count_now c.shift_permits-2.new.lines k t) (c.in_err-lost.ensures.bounded k t)

pub shift_permits-requires-3-clause-counted : goal.shift_permits-requires-3-clause-counted
shift_permits-requires-3-clause-counted g c k t =
    kept-counted c.args.kind c.args.was.reach.now c.args.is.reach.now c.none-none.result c.args.was.permits.now c.args.is.permits.now c.deref-permits.result.now c.deref-permits-2.result.now c.in_ok-come.come.items c.none-none.ensures.none
    (through c.deref-permits.ensures.value c.in_ok-gone.ensures.those) (through c.deref-permits-2.ensures.value c.in_ok-kept.ensures.those) c.in_ok-come.ensures.those
    k t (count_now c.args.lines.now k t) (count_now c.shift_permits-2.new.lines k t) (c.requires.counted k t) (c.in_ok-lost.ensures.now k t)

pub returns-in_err-turned-clause-bounded : goal.returns-in_err-turned-clause-bounded
returns-in_err-turned-clause-bounded g c k t =
    kept-bounded c.args.kind c.args.was.reach.now c.args.is.reach.now c.none-none.result c.args.was.permits.now c.args.is.permits.now c.deref-permits.result.now c.deref-permits-2.result.now c.in_ok-come.come.items c.none-none.ensures.none
    (through c.deref-permits.ensures.value c.in_ok-gone.ensures.those) (through c.deref-permits-2.ensures.value c.in_ok-kept.ensures.those) c.in_ok-come.ensures.those k t
    (count_now c.args.lines.now k t) (count_now c.shift_permits-2.new.lines k t) (count_now c.shift_permits-3.new.lines k t) (c.in_ok-lost.ensures.now k t) (c.in_err-turned.ensures.bounded k t)

pub shift_permits-requires-4-clause-counted : goal.shift_permits-requires-4-clause-counted
shift_permits-requires-4-clause-counted g c k t =
    come-counted c.args.kind c.args.was.reach.now c.args.is.reach.now c.none-none.result c.args.was.permits.now c.args.is.permits.now c.deref-permits.result.now c.deref-permits-2.result.now c.deref-permits-3.result.now c.none-none.ensures.none
    (through c.deref-permits.ensures.value c.in_ok-gone.ensures.those) (through c.deref-permits-2.ensures.value c.in_ok-kept.ensures.those) (through c.deref-permits-3.ensures.value c.in_ok-come.ensures.those) k t (count_now c.shift_permits-3.new.lines k t)

-- no counter is further above what it was than what the rule gives
bounded : (g : given.Over) (c : After-shift_permits-4 g) (k : SymbolKey) (t : ℕ)
    → count_now c.shift_permits-4.new.lines k t ≤ count_now c.args.lines.now k t + one_if (gives_by c.args.kind c.args.is.reach.now c.args.is.permits.now k t)
bounded g c k t =
    come-bounded c.args.kind c.args.was.reach.now c.args.is.reach.now c.none-none.result c.args.was.permits.now c.args.is.permits.now c.deref-permits.result.now c.deref-permits-2.result.now c.deref-permits-3.result.now c.none-none.ensures.none
    (through c.deref-permits.ensures.value c.in_ok-gone.ensures.those) (through c.deref-permits-2.ensures.value c.in_ok-kept.ensures.those) (through c.deref-permits-3.ensures.value c.in_ok-come.ensures.those) k t
    (count_now c.args.lines.now k t) (count_now c.shift_permits-2.new.lines k t) (count_now c.shift_permits-3.new.lines k t) (count_now c.shift_permits-4.new.lines k t)
    (c.in_ok-lost.ensures.now k t) (c.in_ok-turned.ensures.now k t) (c.shift_permits-4.ensures.bounded k t)

pub returns-in_err-got-clause-bounded : goal.returns-in_err-got-clause-bounded
returns-in_err-got-clause-bounded g c = bounded g (goal.at.returns-in_err-got-clause-bounded g c).After-shift_permits-4

pub returns-clause-bounded : goal.returns-clause-bounded
returns-clause-bounded g c = bounded g (goal.at.returns-clause-bounded g c).After-shift_permits-4

pub returns-clause-now : goal.returns-clause-now
returns-clause-now g c k t =
    others-moved c.args.kind c.args.was.reach.now c.args.is.reach.now c.none-none.result c.args.was.permits.now c.args.is.permits.now c.deref-permits.result.now c.deref-permits-2.result.now c.deref-permits-3.result.now c.none-none.ensures.none
    (through c.deref-permits.ensures.value c.in_ok-gone.ensures.those) (through c.deref-permits-2.ensures.value c.in_ok-kept.ensures.those) (through c.deref-permits-3.ensures.value c.in_ok-come.ensures.those) k t
    (count_now c.args.lines.now k t) (count_now c.shift_permits-2.new.lines k t) (count_now c.shift_permits-3.new.lines k t) (count_now c.shift_permits-4.new.lines k t)
    (c.in_ok-lost.ensures.now k t) (c.in_ok-turned.ensures.now k t) (c.in_ok-got.ensures.now k t)

pub returns-clause-before : goal.returns-clause-before
returns-clause-before g c k t =
    c.in_ok-got.ensures.before k t ∙ c.in_ok-turned.ensures.before k t ∙ c.in_ok-lost.ensures.before k t

pub returns-clause-moved : goal.returns-clause-moved
returns-clause-moved g c =
    others-rise c.args.kind c.args.was.reach.now c.args.is.reach.now c.none-none.result c.args.was.permits.now c.args.is.permits.now c.deref-permits.result.now c.deref-permits-2.result.now c.deref-permits-3.result.now c.none-none.ensures.none
    (through c.deref-permits.ensures.value c.in_ok-gone.ensures.those) (through c.deref-permits-2.ensures.value c.in_ok-kept.ensures.those) (through c.deref-permits-3.ensures.value c.in_ok-come.ensures.those)
    c.in_ok-lost.lost c.in_ok-turned.turned c.in_ok-got.got c.saturating_add.result c.saturating_add-2.result
    c.in_ok-lost.ensures.moved c.in_ok-turned.ensures.moved c.in_ok-got.ensures.moved c.saturating_add.ensures c.saturating_add-2.ensures
