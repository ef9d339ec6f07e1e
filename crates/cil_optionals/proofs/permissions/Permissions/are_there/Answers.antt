use Rattle.cil_optionals.proofs.Common.{◌≡◌, ◌<◌, true, false, length, map, Some, sym, ap, ◌∙◌, subst, arith, rules, list_all, classes, leads, texts, IsLead, texts_of, are_there, names_permissions, permissions_in, rows-length, slice_get_within}
use Rattle.cil_parse.specs.Forms.{kind_of, permissions_in as listed_in}
use Rattle.cil_parse.specs.Parsed.{statement_count}
use Rattle.cil_bind.proofs.BindingLemmas.{kind-at}
use Rattle.cil_optionals.proofs.AsksLemmas.{kinds-long, leads-of, row-one, seen-of}
use Rattle.cil_optionals.proofs.KnownLemmas.{list-texts, row-from}
use Rattle.cil_optionals.proofs.PermissionLemmas.{named-class, names-none, there-none, there-some}
use Rattle.cil_optionals.proofs.permissions.Permissions.are_there.Goals as goal

pub index-kind-requires : goal.index-kind-requires
index-kind-requires g c =
    let r = c.requires in
    let p = c.args.policy.now in
    let long = kinds-long p c.args.self.now.joined.now.modules.items r.0 r.2 in
    let less = slice_get_within r.0 c.args.i r.1 r.3 in
    let low : c.args.i < length p.kinds.items = omega (arith, long, less) in
    search rules

pub returns-then-not-names_permissions-clause-there : goal.returns-then-not-names_permissions-clause-there
returns-then-not-names_permissions-clause-there g c = λ all s ready have at.
    let isnt : names_permissions (kind_of s.form) ≡ false = sym (c.names_permissions.ensures ∙ ap names_permissions (c.index-kind.ensures ∙ kind-at all c.args.policy.now.kinds.items c.args.i s c.index-kind.result.now ready.bound.kinds at)) ∙ c.if-not-names_permissions.true in
    sym (ap (are_there all s.namespace) (names-none s.form isnt))

pub references-requires-clause-bound : goal.references-requires-clause-bound
references-requires-clause-bound g c = (c.requires.0, c.requires.2.bound)

pub references-requires-clause-within : goal.references-requires-clause-within
references-requires-clause-within g c =
    let r = c.requires in
    let p = c.args.policy.now in
    let long = rows-length p.names p.lookup.namespaces p.rows.items r.0 r.2.bound.stands.rows_are in
    let less = slice_get_within r.0 c.args.i r.1 r.3 in
    omega (arith, long, less)

pub index-requires : goal.index-requires
index-requires g c =
    let r = c.requires in
    let p = c.args.policy.now in
    let long = rows-length p.names p.lookup.namespaces p.rows.items r.0 r.2.bound.stands.rows_are in
    let less = slice_get_within r.0 c.args.i r.1 r.3 in
    let low : c.args.i < length p.rows.items = omega (arith, long, less) in
    search rules

pub of-list-requires : goal.of-list-requires
of-list-requires g c =
    let r = c.requires in
    (r.1, row-from c.args.policy.now c.args.self.now.joined.now.modules.items r.0 c.args.i r.1 c.index.result.now r.2 r.3 c.index.ensures)

pub returns-then-knows-clause-there : goal.returns-then-knows-clause-there
returns-then-knows-clause-there g c = λ all s ready have at.
    let p = c.args.policy.now in
    let parsed = c.args.self.now.joined.now.modules.items in
    let is : names_permissions (kind_of s.form) ≡ true = sym (c.names_permissions.ensures ∙ ap names_permissions (c.index-kind.ensures ∙ kind-at all p.kinds.items c.args.i s c.index-kind.result.now ready.bound.kinds at)) ∙ c.if-not-names_permissions.false in
    let named = named-class all s.namespace s.form is c.references.result (leads-of p parsed all c.args.i s c.references.result ready at c.references.ensures) in
    let led = subst (λ o. IsLead classes all o (leads all classes s.namespace named.the_class.text)) (sym c.last.ensures ∙ c.in-Some.is) named.lead in
    let from = row-from p parsed all c.args.i s c.index.result.now ready at c.index.ensures in
    let has = permissions_in c.args.self.now.listed.now c.in-Some.class in
    sym (c.args.self.now.known_are c.of-list.result.«module» c.of-list.result.list c.in-Some.class (sym c.knows.ensures ∙ c.if-knows.true))
    ∙ ap (list_all has) (c.of-list.ensures s from) ∙ list-texts has (listed_in s.form)
    ∙ there-some all (permissions_in c.args.self.now.listed.now) s.namespace named.the_class (listed_in s.form) c.in-Some.class have led ∙ ap (are_there all s.namespace) (sym named.named)

pub module_of-module-requires : goal.module_of-module-requires
module_of-module-requires g c =
    let r = c.requires in
    let p = c.args.policy.now in
    let long = rows-length p.names p.lookup.namespaces p.rows.items r.0 r.2.bound.stands.rows_are in
    let less = slice_get_within r.0 c.args.i r.1 r.3 in
    record { ready = (r.0, r.2); within = omega (arith, long, less) }

pub statement-view-requires : goal.statement-view-requires
statement-view-requires g c =
    let r = c.requires in
    let m = c.module_of-module.result.now in
    let of = c.module_of-module.ensures r.0 r.1 r.2 r.3 in
    subst (λ row. row.index < statement_count m) (row-one c.args.policy.now m c.args.i r.1 c.index.result.now of c.index.ensures).0 of.within

pub has_list-requires : goal.has_list-requires
has_list-requires g c =
    let r = c.requires in
    let p = c.args.policy.now in
    let m = c.module_of-module.result.now in
    let parsed = c.args.self.now.joined.now.modules.items in
    let seen = seen-of p parsed m r.0 c.args.i r.1 c.index.result.now c.statement-view.result c.references.result r.2 r.3 (c.module_of-module.ensures r.0 r.1 r.2 r.3) c.index.ensures c.statement-view.ensures c.references.ensures in
    let from = row-from p parsed r.0 c.args.i r.1 c.index.result.now r.2 r.3 c.index.ensures in
    (listed_in seen.f.form, c.permissions.ensures (texts_of m) seen.f seen.shown, c.of-list.ensures r.1 from ∙ ap (λ f. texts (listed_in f)) (sym seen.form))

pub returns-clause-there : goal.returns-clause-there
returns-clause-there g c = λ all s ready have at.
    let p = c.args.policy.now in
    let m = c.module_of-module.result.now in
    let parsed = c.args.self.now.joined.now.modules.items in
    let seen = seen-of p parsed m all c.args.i s c.index.result.now c.statement-view.result c.references.result ready at (c.module_of-module.ensures all s ready at) c.index.ensures c.statement-view.ensures c.references.ensures in
    let is : names_permissions (kind_of s.form) ≡ true = sym (c.names_permissions.ensures ∙ ap names_permissions (c.index-kind.ensures ∙ kind-at all p.kinds.items c.args.i s c.index-kind.result.now ready.bound.kinds at)) ∙ c.if-not-names_permissions.false in
    let named = named-class all s.namespace s.form is c.references.result seen.leads_are in
    let led = subst (λ o. IsLead classes all o (leads all classes s.namespace named.the_class.text)) (sym c.last.ensures ∙ c.in-Some.is) named.lead in
    c.in_ok-there.ensures.has (listed_in s.form) (c.permissions.ensures (texts_of m) seen.f seen.shown ∙ ap (λ form. map Some (listed_in form)) seen.form)
    ∙ there-some all (permissions_in c.args.self.now.listed.now) s.namespace named.the_class (listed_in s.form) c.in-Some.class have led ∙ ap (are_there all s.namespace) (sym named.named)

pub returns-in_default-clause-there : goal.returns-in_default-clause-there
returns-in_default-clause-there g c = λ all s ready have at.
    let p = c.args.policy.now in
    let parsed = c.args.self.now.joined.now.modules.items in
    let is : names_permissions (kind_of s.form) ≡ true = sym (c.names_permissions.ensures ∙ ap names_permissions (c.index-kind.ensures ∙ kind-at all p.kinds.items c.args.i s c.index-kind.result.now ready.bound.kinds at)) ∙ c.if-not-names_permissions.false in
    let named = named-class all s.namespace s.form is c.references.result (leads-of p parsed all c.args.i s c.references.result ready at c.references.ensures) in
    let led = subst (λ o. IsLead classes all o (leads all classes s.namespace named.the_class.text)) (sym c.last.ensures ∙ c.in_default.is) named.lead in
    sym (ap (are_there all s.namespace) named.named ∙ there-none all s.namespace named.the_class (listed_in s.form) led)

pub overflow_cast-row : goal.overflow_cast-row
overflow_cast-row g c =
    let r = c.requires in
    let m = c.module_of-module.result.now in
    let of = c.module_of-module.ensures r.0 r.1 r.2 r.3 in
    let low = subst (λ row. row.index < statement_count m) (row-one c.args.policy.now m c.args.i r.1 c.index.result.now of c.index.ensures).0 of.within in
    let size = m.rows.ok.0 in
    omega (arith, low, size)
