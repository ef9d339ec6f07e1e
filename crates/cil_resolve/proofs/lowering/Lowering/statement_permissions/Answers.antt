use Rattle.cil_resolve.proofs.Common.{◌∙◌, ap, sym, IfOk-weaker, nodes_in}
use Rattle.cil_resolve.proofs.GivenLemmas.{no-list}
use Rattle.cil_resolve.proofs.lowering.Lowering.statement_permissions.Goals as goal

pub written_at-requires : goal.written_at-requires
written_at-requires g c =
    let (policy, s, the_class, permissions, is, at, names_them) = c.requires in (
      policy,
      s,
      the_class,
      permissions,
      is.lowering,
      at,
      record { is = names_them; no_list = no-list permissions (is.seen_is.shown.nodes ∙ ap nodes_in is.seen_is.form ∙ names_them.nodes) (sym c.is_empty.ensures ∙ c.if-not-is_empty.true) },
    )

pub returns-then-not-is_empty-clause-permissions :
    goal.returns-then-not-is_empty-clause-permissions
returns-then-not-is_empty-clause-permissions g c =
    IfOk-weaker c.written_at.result _ _
    (λ p made policy s the_class permissions is at knows names_them.
    made policy s the_class permissions is.lowering at
    (record { is = names_them; no_list = no-list permissions (is.seen_is.shown.nodes ∙ ap nodes_in is.seen_is.form ∙ names_them.nodes) (sym c.is_empty.ensures ∙ c.if-not-is_empty.true) }))
    c.written_at.ensures

pub plain_permissions-requires : goal.plain_permissions-requires
plain_permissions-requires g c = record { is = c.requires; plain = sym c.is_empty.ensures ∙ c.if-not-is_empty.false }

pub returns-clause-permissions : goal.returns-clause-permissions
returns-clause-permissions g c = c.plain_permissions.ensures.permissions

pub returns-clause-known : goal.returns-clause-known
returns-clause-known g c = c.plain_permissions.ensures.known
