use Rattle.cil_resolve.proofs.Common.{ap, is_numbered, modules_of}
use Rattle.cil_resolve.proofs.PartLemmas.{class-form, class-made}
use Rattle.cil_resolve.proofs.lowering.Lowering.class_at.Goals as goal

pub returns : goal.returns
returns g c policy s is at a_class =
    let (id, permissions, form) = class-form s.form a_class in
    class-made (modules_of c.args.self.now.checker.now.bound.joined.now) c.args.self.now.numbering.now.names.items
    (record { «module» = c.declared-declared.result.«module»; at = c.declared-declared.result.at; name = c.declared-declared.result.name; permissions = c.in_ok-class_permissions.field-0 }) policy s
    (c.declared-declared.ensures policy s is at (ap is_numbered form)) a_class (c.in_ok-class_permissions.ensures policy s is at a_class)
