use Rattle.cil_resolve.proofs.Common.{◌∙◌, flat_map, take, sym, ap, subst, arith, slice_get_within, ArePermissionSets, modules_of, permission_set_if, kind_of, naming}
use Rattle.cil_bind.proofs.PositionLemmas.{take-last}
use Rattle.cil_resolve.proofs.NamingLemmas.{naming-there, naming-all, flat-naming, not-of-set}
use Rattle.cil_resolve.proofs.PermissionSetLemmas.{no-set}
use Rattle.cil_resolve.proofs.lowering.Lowering.permission_sets.Goals as goal

pub add_permission_set-requires : goal.add_permission_set-requires
add_permission_set-requires g c =
    let (policy, is, places) = c.requires in
    let (s, among, at) = naming-there policy c.args.naming.now c.loop-k.k places c.loop-k-test.true in
    (policy, is, slice_get_within policy _ s at)

pub loop-k-preserved : goal.loop-k-preserved
loop-k-preserved g c policy is places knew =
    let k = c.loop-k.k in
    let (s, among, at) = naming-there policy c.args.naming.now k places c.loop-k-test.true in
    let modules = modules_of c.args.self.now.checker.now.bound.joined.now in
    let names = c.args.self.now.numbering.now.names.items in
    let (so_far, knows) = c.loop-k.invariant policy is places knew in (
      subst (λ l. ArePermissionSets modules names policy c.add_permission_set.new.sets.items (flat_map (permission_set_if policy) l)) (sym (take-last (naming policy) k s among))
          (c.in_ok-add_permission_set.ensures.sets policy (take k (naming policy)) s is at knows so_far),
      c.in_ok-add_permission_set.ensures.known policy is knows,
    )

pub returns-clause-sets : goal.returns-clause-sets
returns-clause-sets g c policy is places knew =
    let past = c.loop-k-test.false in
    subst (λ l. ArePermissionSets (modules_of c.args.self.now.checker.now.bound.joined.now) c.args.self.now.numbering.now.names.items policy c.loop-k.sets.items l)
    (ap (flat_map (permission_set_if policy)) (naming-all policy c.args.naming.now c.loop-k.k places (omega (arith, past)))
    ∙ flat-naming (permission_set_if policy) policy (λ s other. no-set policy s s.form (not-of-set (kind_of s.form) other)))
    (c.loop-k.invariant policy is places knew).0

pub returns-clause-known : goal.returns-clause-known
returns-clause-known g c policy is places knew = (c.loop-k.invariant policy is places knew).1
