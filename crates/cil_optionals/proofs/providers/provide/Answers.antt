use Rattle.cil_optionals.proofs.Common.{◌<◌, ◌+◌, ◌∷◌, length, rules, sym, ap, ◌∙◌, subst, arith, is_some, true≢false, same_Some, option_to_list, rows-length, alternatives, IsDeclaration, AreProviders}
use Rattle.cil_bind.specs.Rows.{declares_name}
use Rattle.cil_bind.proofs.BindingLemmas.{kind-at}
use Rattle.cil_bind.proofs.ScopeLemmas.{kind-nothing}
use Rattle.cil_optionals.specs.Nodes.{declared_table}
use Rattle.cil_optionals.proofs.AsksLemmas.{kinds-long}
use Rattle.cil_optionals.proofs.ProviderLemmas.{providers-skip, providers-next, row-nothing, row-scopes, row-of, row-next}
use Rattle.cil_optionals.proofs.providers.provide.Goals as goal

pub index-requires : goal.index-requires
index-requires g c =
    let p = c.args.policy.now in
    let ready = c.requires.ready.2 in
    let long = rows-length p.names p.lookup.namespaces p.rows.items c.requires.ready.1 ready.bound.stands.rows_are in
    let kinds = kinds-long p c.requires.ready.0 c.requires.ready.1 ready in
    let within = c.requires.within in
    let low : c.args.i < length p.kinds.items = omega arith in
    search rules

pub returns-then-not-declares_name : goal.returns-then-not-declares_name
returns-then-not-declares_name g c = λ parsed all ready are.
    let p = c.args.policy.now in
    providers-skip all p.rows.items c.args.i c.args.needs.now.items
    (λ row s at here declared.
    let kind = c.index.ensures ∙ kind-at all p.kinds.items c.args.i s _ ready.bound.kinds here in
    let none = kind-nothing (declared_table s.form) s.form (ap declares_name (sym kind) ∙ sym c.declares_name.ensures ∙ c.if-not-declares_name.true) in
    absurd (true≢false (sym declared.some ∙ ap is_some none))) are

pub returns-in_default : goal.returns-in_default
returns-in_default g c = λ parsed all ready are.
    let p = c.args.policy.now in
    let has = row-of p parsed all c.args.i c.index-row.result.now ready c.requires.within c.index-row.ensures in
    providers-skip all p.rows.items c.args.i c.args.needs.now.items
    (λ row s at here declared. absurd (row-nothing p.names c.index-row.result.now.declares has.s c.in_default.is has.is.declares
    (subst IsDeclaration (same_Some s has.s (sym here ∙ has.at)) declared))) are

pub returns-then-row-eq0 : goal.returns-then-row-eq0
returns-then-row-eq0 g c = λ parsed all ready are.
    let p = c.args.policy.now in
    let has = row-of p parsed all c.args.i c.index-row.result.now ready c.requires.within c.index-row.ensures in
    providers-skip all p.rows.items c.args.i c.args.needs.now.items
    (λ row s at here declared. ap (λ r. r.optional) (same_Some row c.index-row.result.now (sym at ∙ has.row_at)) ∙ c.if-row-eq0.true) are

pub returns-then-is_scopes : goal.returns-then-is_scopes
returns-then-is_scopes g c = λ parsed all ready are.
    let p = c.args.policy.now in
    let has = row-of p parsed all c.args.i c.index-row.result.now ready c.requires.within c.index-row.ensures in
    providers-skip all p.rows.items c.args.i c.args.needs.now.items
    (λ row s at here declared. absurd (row-scopes p.names c.in-Some.table c.in-Some.word c.index-row.result.now.declares has.s c.in-Some.is (c.is_scopes.ensures.yes c.if-is_scopes.true) has.is.declares
    (subst IsDeclaration (same_Some s has.s (sym here ∙ has.at)) declared))) are

pub further_out-next-requires : goal.further_out-next-requires
further_out-next-requires g c =
    let p = c.args.policy.now in
    let ready = c.requires.ready.2 in
    (row-of p c.requires.ready.0 c.requires.ready.1 c.args.i c.index-row.result.now ready c.requires.within c.index-row.ensures).is.within

pub name_node-requires : goal.name_node-requires
name_node-requires g c =
    let few = c.requires.ready.2.few in
    let size = c.args.policy.now.rows.ok.0 in
    let long = c.len.ensures in
    omega (arith, few, size, long)

pub returns : goal.returns
returns g c = λ parsed all ready are.
    let p = c.args.policy.now in
    let row = c.index-row.result.now in
    let has = row-of p parsed all c.args.i row ready c.requires.within c.index-row.ensures in
    let long = rows-length p.names p.lookup.namespaces p.rows.items all ready.bound.stands.rows_are in
    let size = p.rows.ok.0 in
    let count = c.len-2.ensures in
    subst (AreProviders all p.rows.items (c.args.i + 1)) (sym c.in_ok-push.ensures.items)
    (providers-next all p.rows.items c.args.i row has.s c.further_out-next.result _ c.args.needs.now.items ready.apart ready.bound.once ready.nested has.row_at has.at
    (row-next p all c.args.i row c.in-Some.table c.in-Some.word c.further_out-next.result has c.in-Some.is (c.is_scopes.ensures.no c.if-is_scopes.false) (c.further_out-next.ensures p.names all ready.bound.knows))
    (omega (arith, size, count, long))
    (ap (λ n. row.optional ∷ option_to_list n) c.name_node.ensures ∙ ap (λ n. alternatives n row.optional c.further_out-next.result) (let first = c.len.ensures in omega (arith, first, size, long)))
    are)
