use Rattle.cil_lookup.proofs.Common.{sym, ap, ◌∙◌, subst, option_and_then, inside, namespace_at, path_of, table_of, IsLead}
use Rattle.cil_lookup.proofs.LookupLemmas.{no-lead, within-at, from-one, from-more, path-first, path-rest}
use Rattle.cil_lookup.proofs.lookup.Lookup.from_namespace.Goals as goal

pub returns-then-is_empty : goal.returns-then-is_empty
returns-then-is_empty g c = λ names policy knows all.
    let path = c.args.path.now in
    let words = c.args.words.now in
    let namespace = namespace_at names c.args.self.now.namespaces c.args.namespace in
    let first = c.in_ok-first.first.now in
    let rest = c.in_ok-first.rest.now in
    let split = c.in_ok-first.ensures.cases.0 in
    subst (IsLead (table_of c.args.table) policy c.outward.result) (sym (from-one (table_of c.args.table) policy names namespace words path first rest split (sym c.is_empty.ensures ∙ c.if-is_empty.true)))
    (c.outward.ensures names policy knows (within-at names words first all (path-first words path first rest split c.requires.path)))

pub returns-in_err-inner : goal.returns-in_err-inner
returns-in_err-inner g c = λ names policy knows all.
    let path = c.args.path.now in
    let words = c.args.words.now in
    let namespace = namespace_at names c.args.self.now.namespaces c.args.namespace in
    let first = c.in_ok-first.first.now in
    let rest = c.in_ok-first.rest.now in
    let split = c.in_ok-first.ensures.cases.0 in
    let below = within-at names words first all (path-first words path first rest split c.requires.path) in
    rw c.from_residual-in_err-inner.ensures
    (no-lead (table_of c.args.table) policy _
    (from-more (table_of c.args.table) policy names namespace words path first rest split (sym c.is_empty.ensures ∙ c.if-is_empty.false)
    ∙ ap (option_and_then (λ inner. inside policy (table_of c.args.table) inner (path_of names words rest))) (c.in_err-inner.ensures.none names policy knows below)))

pub inside-requires-clause-path : goal.inside-requires-clause-path
inside-requires-clause-path g c = path-rest c.args.words.now c.args.path.now c.in_ok-first.first.now c.in_ok-first.rest.now c.in_ok-first.ensures.cases.0 c.requires.path

pub returns : goal.returns
returns g c = λ names policy knows all.
    let path = c.args.path.now in
    let words = c.args.words.now in
    let namespace = namespace_at names c.args.self.now.namespaces c.args.namespace in
    let first = c.in_ok-first.first.now in
    let rest = c.in_ok-first.rest.now in
    let split = c.in_ok-first.ensures.cases.0 in
    let below = within-at names words first all (path-first words path first rest split c.requires.path) in
    subst (IsLead (table_of c.args.table) policy c.inside.result)
    (sym (from-more (table_of c.args.table) policy names namespace words path first rest split (sym c.is_empty.ensures ∙ c.if-is_empty.false)
    ∙ ap (option_and_then (λ inner. inside policy (table_of c.args.table) inner (path_of names words rest))) (c.in_ok-inner.ensures.some names policy knows below)))
    (c.inside.ensures names policy knows all)
