use Rattle.cil_resolve.proofs.Common.{◌∙◌, sym, ap, there-at, modules_of}
use Rattle.cil_resolve.proofs.FormLemmas.{is_set_statement, no-set-statement, permission-set-form}
use Rattle.cil_resolve.proofs.PermissionSetLemmas.{sets-grow, sets-stay}
use Rattle.cil_resolve.proofs.lowering.Lowering.add_permission_set.Goals as goal

pub seen-seen-requires : goal.seen-seen-requires
seen-seen-requires g c =
    let (policy, is, low) = c.requires in
    let (s, at) = there-at policy c.args.i low in
    (policy, s, is, at)

pub permission_set-requires : goal.permission_set-requires
permission_set-requires g c =
    let (policy, is, low) = c.requires in
    let (s, at) = there-at policy c.args.i low in (
      policy,
      s,
      c.seen-seen.ensures policy s is at,
      at,
      permission-set-form s.form (ap is_set_statement (sym (c.kind.ensures policy s is.noted.is at) ∙ c.in-ClassPermissionSet.is)),
    )

pub returns-clause-sets : goal.returns-clause-sets
returns-clause-sets g c policy statements s is at knows so_far =
    sets-grow (modules_of c.args.self.now.checker.now.bound.joined.now) c.args.self.now.numbering.now.names.items policy c.args.sets.now.items c.push.new.self.items c.in_ok-set.set statements s so_far
    c.in_ok-push.ensures.items
    (c.in_ok-set.ensures.set policy s (c.seen-seen.ensures policy s is at) at (permission-set-form s.form (ap is_set_statement (sym (c.kind.ensures policy s is.noted.is at) ∙ c.in-ClassPermissionSet.is))) knows)

pub returns-clause-known : goal.returns-clause-known
returns-clause-known g c = c.in_ok-set.ensures.known

pub returns-in_default-clause-sets : goal.returns-in_default-clause-sets
returns-in_default-clause-sets g c policy statements s is at knows so_far =
    sets-stay (modules_of c.args.self.now.checker.now.bound.joined.now) c.args.self.now.numbering.now.names.items policy c.args.sets.now.items statements s so_far
    (ap is_set_statement (sym (c.kind.ensures policy s is.noted.is at)) ∙ no-set-statement c.kind.result c.in_default.not-ClassPermissionSet)
