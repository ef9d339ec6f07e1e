use Rattle.std.proofs.Common.{◌≡◌, ◌∙◌, ap, filter, subst, sym, take, take_all}
use Rattle.std.proofs.lemmas.List.Kept.{IsStrictlySortedBy-filter}
use Rattle.cil_rule_shifts.specs.Moves.{differs}
use Rattle.cil_rule_shifts.specs.Permits.{has_permit, permit_cmp, AreInOrder}
use Rattle.cil_rule_shifts.proofs.PermitLemmas.{has-those}
use Rattle.cil_rule_shifts.proofs.permit.those.Goals as goal

pub returns-clause-order : goal.returns-clause-order
returns-clause-order g c =
    let all : take c.loop-permit.permit-index c.args.permits.now ≡ c.args.permits.now = take_all c.loop-permit.permit-index c.args.permits.now c.loop-permit-test.false in
    subst AreInOrder (sym (c.loop-permit.invariant ∙ ap (filter (λ p. differs (has_permit c.args.others.now p.class p.permission) c.args.except)) all))
    (IsStrictlySortedBy-filter permit_cmp (λ p. differs (has_permit c.args.others.now p.class p.permission) c.args.except) c.args.permits.now c.requires.permits)

pub returns-clause-those : goal.returns-clause-those
returns-clause-those g c d p =
    let all : take c.loop-permit.permit-index c.args.permits.now ≡ c.args.permits.now = take_all c.loop-permit.permit-index c.args.permits.now c.loop-permit-test.false in
    ap (λ xs. has_permit xs d p) (c.loop-permit.invariant ∙ ap (filter (λ p. differs (has_permit c.args.others.now p.class p.permission) c.args.except)) all)
    ∙ has-those c.args.others.now c.args.except d p c.args.permits.now
