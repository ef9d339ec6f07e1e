use Rattle.cil_optionals.proofs.Common.{◌≤◌, ◌<◌, ◌+◌, [], not, ◌&&◌, IfSome, length, get_or, take, sym, ap, subst, arith, restricted, references, leads, is_unfound, rows-length, slice_get_within, texts_of, table_of, are_found, optional_at, AddsNeed}
use Rattle.cil_optionals.proofs.AsksLemmas.{asks-none, asks-same, asks-need, row-one, leads-of, seen-of, reference-of, reference-there, reference-met, reference-lead, found-next, found-outside, found-all}
use Rattle.cil_parse.specs.Parsed.{statement_count}
use Rattle.cil_optionals.proofs.references.references.Goals as goal

pub references-bound-requires-clause-bound : goal.references-bound-requires-clause-bound
references-bound-requires-clause-bound g c =
    let r = c.requires.ready in
    (r.0, r.2.bound)

pub references-bound-requires-clause-within : goal.references-bound-requires-clause-within
references-bound-requires-clause-within g c =
    let p = c.args.policy.now in
    let r = c.requires.ready in
    let long = rows-length p.names p.lookup.namespaces p.rows.items r.0 r.2.bound.stands.rows_are in
    let less = slice_get_within r.0 c.args.i r.1 r.3 in
    omega (arith, long, less)

pub is_outside-requires : goal.is_outside-requires
is_outside-requires g c =
    let p = c.args.policy.now in
    let r = c.requires.ready in
    let are = leads-of p c.args.joined.now.modules.items r.0 c.args.i r.1 c.references-bound.result r.2 r.3 c.references-bound.ensures in
    let (reference, at, lead) = reference-lead r.0 r.1 c.references-bound.result c.loop-k.k c.place-found.result are (let many = c.len-k-end.ensures in let less = c.loop-k-test.true in omega (arith, many, less)) c.place-found.ensures in
    (c.args.joined.now.modules.items, r.0, reference.0, leads r.0 reference.0 r.1.namespace reference.1.text, r.2, lead)

pub loop-k-preserved-then-is_outside : goal.loop-k-preserved-then-is_outside
loop-k-preserved-then-is_outside g c = λ all s ready at of.
    let p = c.args.policy.now in
    let are = leads-of p c.args.joined.now.modules.items all c.args.i s c.references-bound.result ready at c.references-bound.ensures in
    let (reference, there, lead) = reference-lead all s c.references-bound.result c.loop-k.k c.place-found.result are (let many = c.len-k-end.ensures in let less = c.loop-k-test.true in omega (arith, many, less)) c.place-found.ensures in
    let out = c.is_outside.ensures c.if-is_outside.true c.args.joined.now.modules.items all reference.0 (leads all reference.0 s.namespace reference.1.text) ready lead in
    asks-same all (optional_at p c.args.i) (λ set. are_found (restricted set all) s.namespace (take c.loop-k.k (references s.form)))
    (λ set. are_found (restricted set all) s.namespace (take (c.loop-k.k + 1) (references s.form))) c.args.needs.now.items c.loop-k.needs.items
    (found-outside p c.args.joined.now.modules.items all s c.loop-k.k reference ready there out) (c.loop-k.invariant all s ready at of)

pub loop-k-preserved-in_default : goal.loop-k-preserved-in_default
loop-k-preserved-in_default g c = λ all s ready at of.
    let p = c.args.policy.now in
    let m = c.args.«module».now in
    let seen = seen-of p c.args.joined.now.modules.items m all c.args.i s c.index-row.result.now c.statement-view.result c.references-bound.result ready at of c.index-row.ensures c.statement-view.ensures c.references-bound.ensures in
    absurd (reference-there p m all c.args.i s c.statement-view.result c.references-bound.result c.loop-k.k seen (c.in_default.ensures.none (texts_of m) seen.f seen.shown) (let many = c.len-k-end.ensures in let less = c.loop-k-test.true in omega (arith, many, less)))

pub is_plain-plain-requires : goal.is_plain-plain-requires
is_plain-plain-requires g c =
    let p = c.args.policy.now in
    let m = c.args.«module».now in
    let r = c.requires.ready in
    let seen = seen-of p c.args.joined.now.modules.items m r.0 c.args.i r.1 c.index-row.result.now c.statement-view.result c.references-bound.result r.2 r.3 r.4 c.index-row.ensures c.statement-view.ensures c.references-bound.ensures in
    (reference-of p m r.0 c.args.i r.1 c.statement-view.result c.references-bound.result c.loop-k.k c.in-Some._table c.in-Some.word.now c.place-found.result seen
    (c.in-Some.ensures.some (texts_of m) seen.f seen.shown) c.place-found.ensures).low

pub meeting-node-requires : goal.meeting-node-requires
meeting-node-requires g c =
    let p = c.args.policy.now in
    let m = c.args.«module».now in
    let r = c.requires.ready in
    let seen = seen-of p c.args.joined.now.modules.items m r.0 c.args.i r.1 c.index-row.result.now c.statement-view.result c.references-bound.result r.2 r.3 r.4 c.index-row.ensures c.statement-view.ensures c.references-bound.ensures in
    let is = reference-of p m r.0 c.args.i r.1 c.statement-view.result c.references-bound.result c.loop-k.k c.in-Some._table c.in-Some.word.now c.place-found.result seen
    (c.in-Some.ensures.some (texts_of m) seen.f seen.shown) c.place-found.ensures in
    (c.args.joined.now.modules.items, r.0, table_of c.in-Some._table, leads r.0 (table_of c.in-Some._table) r.1.namespace is.word.text, r.2, is.lead)

pub loop-k-preserved : goal.loop-k-preserved
loop-k-preserved g c = λ all s ready at of.
    let p = c.args.policy.now in
    let m = c.args.«module».now in
    let found = c.place-found.result in
    let seen = seen-of p c.args.joined.now.modules.items m all c.args.i s c.index-row.result.now c.statement-view.result c.references-bound.result ready at of c.index-row.ensures c.statement-view.ensures c.references-bound.ensures in
    let is = reference-of p m all c.args.i s c.statement-view.result c.references-bound.result c.loop-k.k c.in-Some._table c.in-Some.word.now found seen (c.in-Some.ensures.some (texts_of m) seen.f seen.shown) c.place-found.ensures in
    let table = table_of c.in-Some._table in
    let long = rows-length p.names p.lookup.namespaces p.rows.items all ready.bound.stands.rows_are in
    let one = (row-one p m c.args.i s c.index-row.result.now of c.index-row.ensures).1 in
    asks-same all (optional_at p c.args.i) (λ set. are_found (restricted set all) s.namespace (take c.loop-k.k (references s.form)) && not (is_unfound (restricted set all) s.namespace (table, is.word)))
    (λ set. are_found (restricted set all) s.namespace (take (c.loop-k.k + 1) (references s.form))) c.args.needs.now.items c.add_need.new.needs.items
    (λ set. found-next (restricted set all) s.namespace (references s.form) c.loop-k.k (table, is.word) is.there)
    (asks-need all (optional_at p c.args.i) (λ set. are_found (restricted set all) s.namespace (take c.loop-k.k (references s.form))) (λ set. not (is_unfound (restricted set all) s.namespace (table, is.word)))
    c.meeting-node.result c.args.needs.now.items c.loop-k.needs.items c.add_need.new.needs.items
    (subst (λ n. IfSome c.meeting-node.result (λ k. k < n + n + 1)) long c.meeting-node.ensures.below)
    (reference-met p c.args.joined.now.modules.items all s c.loop-k.k table is.word (get_or (texts_of m) c.in-Some.word.now.text []) found c.is_plain-plain.result c.meeting-node.result ready is.there is.text c.is_plain-plain.ensures
    (c.meeting-node.ensures.meets c.args.joined.now.modules.items all table (leads all table s.namespace is.word.text) ready is.lead))
    (subst (λ o. AddsNeed c.loop-k.needs.items c.add_need.new.needs.items o c.meeting-node.result) (sym one) c.in_ok-add_need.ensures)
    (c.loop-k.invariant all s ready at of))

pub loop-k-init : goal.loop-k-init
loop-k-init g c = λ all s ready at of. asks-none all (optional_at c.args.policy.now c.args.i) c.args.needs.now.items

pub returns : goal.returns
returns g c = λ all s ready at of.
    let p = c.args.policy.now in
    let are = leads-of p c.args.joined.now.modules.items all c.args.i s c.references-bound.result ready at c.references-bound.ensures in
    let past : length c.references-bound.result ≤ c.loop-k.k = omega arith in
    let end = found-all all s c.references-bound.result c.loop-k.k are past in
    asks-same all (optional_at p c.args.i) (λ set. are_found (restricted set all) s.namespace (take c.loop-k.k (references s.form))) (λ set. are_found (restricted set all) s.namespace (references s.form))
    c.args.needs.now.items c.loop-k.needs.items (λ set. ap (are_found (restricted set all) s.namespace) end) (c.loop-k.invariant all s ready at of)

pub index-row-requires : goal.index-row-requires
index-row-requires g c =
    let r = c.requires.ready in
    let p = c.args.policy.now in
    let long = rows-length p.names p.lookup.namespaces p.rows.items r.0 r.2.bound.stands.rows_are in
    let less = slice_get_within r.0 c.args.i r.1 r.3 in
    let size = p.rows.ok.0 in
    omega (arith, long, less, size)

pub statement-view-requires : goal.statement-view-requires
statement-view-requires g c =
    let r = c.requires.ready in
    let m = c.args.«module».now in
    subst (λ row. row.index < statement_count m) (row-one c.args.policy.now m c.args.i r.1 c.index-row.result.now r.4 c.index-row.ensures).0 r.4.within
