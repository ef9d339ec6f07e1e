use Rattle.cil_optionals.proofs.Common.{rows-length, arith, rules, ◌≡◌, ◌<◌, ◌++◌, true, false, [], map, length, get_or, Some, refl, sym, ap, ◌∙◌, subst, slice_get_within, texts_of, commons_at, given_at, gives_common}
use Rattle.cil_parse.specs.Forms.{kind_of, permissions_in}
use Rattle.cil_parse.specs.Parsed.{statement_count}
use Rattle.cil_bind.specs.Listing.{lists_own}
use Rattle.cil_bind.proofs.BindingLemmas.{kind-at}
use Rattle.cil_optionals.proofs.AsksLemmas.{kinds-long, leads-of, row-one, seen-of}
use Rattle.cil_optionals.proofs.PermissionLemmas.{upto-lists, upto-gives, upto-other}
use Rattle.cil_bind.specs.Policy.{bound_of}
use Rattle.cil_optionals.proofs.listed.Listed.add.Goals as goal

pub index-kind-requires : goal.index-kind-requires
index-kind-requires g c =
    let r = c.requires in
    let p = c.args.policy.now in
    let long = kinds-long p c.args.joined.now.modules.items r.0 r.2 in
    let less = slice_get_within r.0 c.args.i r.1 r.3 in
    let low : c.args.i < length p.kinds.items = omega (arith, long, less) in
    search rules

pub module_of-module-requires : goal.module_of-module-requires
module_of-module-requires g c =
    let r = c.requires in
    let p = c.args.policy.now in
    let long = rows-length p.names p.lookup.namespaces p.rows.items r.0 r.2.bound.stands.rows_are in
    let less = slice_get_within r.0 c.args.i r.1 r.3 in
    record { ready = (r.0, r.2); within = omega (arith, long, less) }

pub index-row-requires : goal.index-row-requires
index-row-requires g c =
    let r = c.requires in
    let p = c.args.policy.now in
    let long = rows-length p.names p.lookup.namespaces p.rows.items r.0 r.2.bound.stands.rows_are in
    let less = slice_get_within r.0 c.args.i r.1 r.3 in
    let low : c.args.i < length p.rows.items = omega (arith, long, less) in
    search rules

pub statement-view-requires : goal.statement-view-requires
statement-view-requires g c =
    let r = c.requires in
    let m = c.module_of-module.result.now in
    let of = c.module_of-module.ensures r.0 r.1 r.2 r.3 in
    subst (λ row. row.index < statement_count m) (row-one c.args.policy.now m c.args.i r.1 c.index-row.result.now of c.index-row.ensures).0 of.within

pub overflow_cast-i : goal.overflow_cast-i
overflow_cast-i g c =
    let r = c.requires in
    let p = c.args.policy.now in
    let long = rows-length p.names p.lookup.namespaces p.rows.items r.0 r.2.bound.stands.rows_are in
    let less = slice_get_within r.0 c.args.i r.1 r.3 in
    let few = r.2.few in
    omega (arith, long, less, few)

pub list-requires-clause-words : goal.list-requires-clause-words
list-requires-clause-words g c =
    let r = c.requires in
    let p = c.args.policy.now in
    let m = c.module_of-module.result.now in
    let seen = seen-of p c.args.joined.now.modules.items m r.0 c.args.i r.1 c.index-row.result.now c.statement-view.result (get_or (bound_of p c.args.joined.now.modules.items) c.args.i []) r.2 r.3 (c.module_of-module.ensures r.0 r.1 r.2 r.3) c.index-row.ensures c.statement-view.ensures refl in
    (permissions_in seen.f.form, c.permissions.ensures (texts_of m) seen.f seen.shown)

pub returns-then-lists_own-clause-up_to : goal.returns-then-lists_own-clause-up_to
returns-then-lists_own-clause-up_to g c = λ all s ready at are.
    let parsed = c.args.joined.now.modules.items in
    let p = c.args.policy.now in
    let m = c.module_of-module.result.now in
    let seen = seen-of p parsed m all c.args.i s c.index-row.result.now c.statement-view.result (get_or (bound_of p c.args.joined.now.modules.items) c.args.i []) ready at (c.module_of-module.ensures all s ready at) c.index-row.ensures c.statement-view.ensures refl in
    let own : lists_own (kind_of s.form) ≡ true = sym (c.lists_own.ensures ∙ ap lists_own (c.index-kind.ensures ∙ kind-at all p.kinds.items c.args.i s c.index-kind.result.now ready.bound.kinds at)) ∙ c.if-lists_own.true in
    upto-lists all c.args.i s c.args.self.now c.list.new.self at own
    (c.in_ok-list.ensures.listed (permissions_in s.form) (c.permissions.ensures (texts_of m) seen.f seen.shown ∙ ap (λ form. map Some (permissions_in form)) seen.form)) c.in_ok-list.ensures.given are

pub references-bound-requires-clause-bound : goal.references-bound-requires-clause-bound
references-bound-requires-clause-bound g c = (c.requires.0, c.requires.2.bound)

pub references-bound-requires-clause-within : goal.references-bound-requires-clause-within
references-bound-requires-clause-within g c =
    let r = c.requires in
    let p = c.args.policy.now in
    let long = rows-length p.names p.lookup.namespaces p.rows.items r.0 r.2.bound.stands.rows_are in
    let less = slice_get_within r.0 c.args.i r.1 r.3 in
    omega (arith, long, less)

pub returns-in_ok-give-clause-up_to : goal.returns-in_ok-give-clause-up_to
returns-in_ok-give-clause-up_to g c = λ all s ready at are.
    let parsed = c.args.joined.now.modules.items in
    let p = c.args.policy.now in
    let gives : gives_common (kind_of s.form) ≡ true = sym (c.gives_common.ensures ∙ ap gives_common (c.index-kind.ensures ∙ kind-at all p.kinds.items c.args.i s c.index-kind.result.now ready.bound.kinds at)) ∙ c.if-gives_common.true in
    upto-gives all c.args.i s c.references-bound.result c.args.self.now c.give.new.self at gives (leads-of p parsed all c.args.i s c.references-bound.result ready at c.references-bound.ensures)
    (λ k. c.in_ok-give.ensures.given k ∙ ap (λ o. commons_at c.args.self.now.given.items k ++ given_at o k) c.gift_of.ensures) c.in_ok-give.ensures.listed are

pub returns-else-gives_common-clause-up_to : goal.returns-else-gives_common-clause-up_to
returns-else-gives_common-clause-up_to g c = λ all s ready at are.
    let parsed = c.args.joined.now.modules.items in
    let p = c.args.policy.now in
    let own : lists_own (kind_of s.form) ≡ false = sym (c.lists_own.ensures ∙ ap lists_own (c.index-kind.ensures ∙ kind-at all p.kinds.items c.args.i s c.index-kind.result.now ready.bound.kinds at)) ∙ c.if-lists_own.false in
    let gives : gives_common (kind_of s.form) ≡ false = sym (c.gives_common.ensures ∙ ap gives_common (c.index-kind.ensures ∙ kind-at all p.kinds.items c.args.i s c.index-kind.result.now ready.bound.kinds at)) ∙ c.if-gives_common.false in
    upto-other all c.args.i s c.args.self.now at own gives are
