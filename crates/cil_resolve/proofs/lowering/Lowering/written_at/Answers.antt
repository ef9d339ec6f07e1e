use Rattle.cil_resolve.proofs.Common.{IfOk-weaker}
use Rattle.cil_resolve.proofs.lowering.Lowering.written_at.Goals as goal

pub seen-seen-requires : goal.seen-seen-requires
seen-seen-requires g c =
    let (policy, s, the_class, permissions, is, at, writes) = c.requires in
    (policy, s, is, at)

pub written_permissions-requires : goal.written_permissions-requires
written_permissions-requires g c =
    let (policy, s, the_class, permissions, is, at, writes) = c.requires in
    (policy, s, the_class, permissions, c.seen-seen.ensures policy s is at, writes)

pub returns : goal.returns
returns g c =
    IfOk-weaker c.written_permissions.result _ _
    (λ p made policy s the_class permissions is at writes.
    made policy s the_class permissions (c.seen-seen.ensures policy s is at) writes)
    c.written_permissions.ensures
