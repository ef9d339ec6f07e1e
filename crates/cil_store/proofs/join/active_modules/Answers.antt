use Rattle.cil_store.proofs.Common.{◌<◌, ◌+◌, ◌∙◌, [], filter, take, length, sym, subst, arith, take_all, entry_at, is_active, AreSharedOf}
use Rattle.std.specs.Rc.{rc_value}
use Rattle.cil_store.proofs.JoinLemmas.{active-more, active-same}
use Rattle.cil_store.proofs.join.active_modules.Goals as goal

pub loop-i-preserved : goal.loop-i-preserved
loop-i-preserved g c =
    let store = c.args.store.now in
    let i = c.loop-i.i in
    let within : i < length store.entries = omega (arith, c.loop-i-test.true, c.len-i-end.ensures) in
    subst (AreSharedOf (filter (is_active store) (take (i + 1) store.entries))) (sym c.in_ok-push.ensures.items)
    (active-more (λ m. m.name) (λ m. rc_value m.«module») store store.entries i (entry_at [] 0) c.loop-i.modules.items c.in_ok-share_module.field-0 within (sym c.is_active.ensures ∙ c.if-not-is_active.false) c.loop-i.invariant c.in_ok-share_module.ensures.name c.in_ok-share_module.ensures.parsed)

pub loop-i-preserved-then-not-is_active : goal.loop-i-preserved-then-not-is_active
loop-i-preserved-then-not-is_active g c =
    let store = c.args.store.now in
    let i = c.loop-i.i in
    let within : i < length store.entries = omega (arith, c.loop-i-test.true, c.len-i-end.ensures) in
    active-same (λ m. m.name) (λ m. rc_value m.«module») store store.entries i (entry_at [] 0) c.loop-i.modules.items within (sym c.is_active.ensures ∙ c.if-not-is_active.true) c.loop-i.invariant

pub returns : goal.returns
returns g c =
    let store = c.args.store.now in
    subst (λ es. AreSharedOf (filter (is_active store) es) c.loop-i.modules.items) (take_all c.loop-i.i store.entries (omega (arith, c.loop-i-test.false, c.len-i-end.ensures))) c.loop-i.invariant
