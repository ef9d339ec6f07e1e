use Rattle.cil_resolve.proofs.Common.{◌∙◌, ◌∷◌, [], sym, ap, subst, permission_sets, references, slice_get_within, ArePermissionSets, modules_of}
use Rattle.std.proofs.Common.{slice_get}
use Rattle.cil_specs.specs.Rule as spec
use Rattle.cil_resolve.specs.declared.numbered.NumberedPermissionSet.{NumberedPermissionSet}
use Rattle.cil_resolve.proofs.FormLemmas.{set-names}
use Rattle.cil_resolve.proofs.PermissionSetLemmas.{set-made}
use Rattle.cil_resolve.proofs.lowering.Lowering.permission_set.Goals as goal

pub module-requires : goal.module-requires
module-requires g c =
    let (policy, s, is, at, of_set) = c.requires in
    (policy, is.lowering, slice_get_within policy c.args.i s at)

pub statement_permissions-requires : goal.statement_permissions-requires
statement_permissions-requires g c =
    let (policy, s, is, at, (set, the_class, permissions, form)) = c.requires in
    (policy, s, the_class, permissions, is, at, set-names s.form set the_class permissions form)

pub number-requires : goal.number-requires
number-requires g c =
    let (policy, s, is, at, (set, the_class, permissions, form)) = c.requires in
    record { policy = policy; s = s; table = permission_sets; word = set; is = is; at = ap (λ f. slice_get (references f) 0) form }

pub returns-clause-set : goal.returns-clause-set
returns-clause-set g c policy s is at (set, the_class, permissions, form) knows =
    let modules = modules_of c.args.self.now.checker.now.bound.joined.now in
    let names = c.args.self.now.numbering.now.names.items in
    let x : NumberedPermissionSet g.row.A.Denot = record {
      «module» = c.module.result;
      at = c.args.seen.now.view.at;
      set = c.number.result;
      permissions = c.in_ok-statement_permissions.field-0;
    } in
    subst (λ f. ArePermissionSets modules names policy (x ∷ []) (spec.permission_set_of policy s f)) (sym form)
    (set-made modules names policy s x set the_class permissions (c.module.ensures policy s is.lowering at) (is.seen_is.shown.at ∙ is.seen_is.place)
    (c.number.ensures.set policy s set is (ap (λ f. slice_get (references f) 0) form))
    (c.in_ok-statement_permissions.ensures.permissions policy s the_class permissions is at knows (set-names s.form set the_class permissions form)))
