use Rattle.cil_lookup.proofs.Common.{sym, ap, ◌∙◌, subst, inside, named, namespace_at, path_of, table_of, IsLead}
use Rattle.cil_lookup.proofs.LookupLemmas.{none-fact, leads-global, leads-local}
use Rattle.cil_lookup.proofs.lookup.Lookup.leads.Goals as goal

pub returns-then-global : goal.returns-then-global
returns-then-global g c = λ names policy knows all text same parts.
    let path = path_of names c.args.words.now c.args.path.now in
    subst (IsLead (table_of c.args.table) policy c.inside.result)
    (ap (λ n. inside policy (table_of c.args.table) n path) (ap (named names) (none-fact c.outer.result c.if-prove.ensures c.outer.ensures.none))
    ∙ sym (leads-global (table_of c.args.table) policy (namespace_at names c.args.self.now.namespaces c.args.namespace) text path (same ∙ c.if-global.true) parts))
    (c.inside.ensures names policy knows all)

pub returns-else-global : goal.returns-else-global
returns-else-global g c = λ names policy knows all text same parts.
    let path = path_of names c.args.words.now c.args.path.now in
    subst (IsLead (table_of c.args.table) policy c.from_namespace.result)
    (sym (leads-local (table_of c.args.table) policy (namespace_at names c.args.self.now.namespaces c.args.namespace) text path (same ∙ c.if-global.false) parts))
    (c.from_namespace.ensures names policy knows all)
