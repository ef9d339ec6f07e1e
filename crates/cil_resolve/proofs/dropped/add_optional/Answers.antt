use Rattle.cil_resolve.proofs.Common.{◌≡◌, ◌<◌, ◌++◌, length, arith, rules, sym, ap, ◌∙◌, length-append, length-map, none-some, declared_as, declared_in, scopes, full_name, word_text, texts_of, modules_of, name_in, is-there, from-within}
use Rattle.std.proofs.Common.{◌-◌}
use Rattle.cil_parse.specs.Kinds.{table_of}
use Rattle.cil_bind.proofs.ScopeLemmas.{read-text, read-within}
use Rattle.cil_bind.proofs.TwiceLemmas.{declares-one}
use Rattle.cil_resolve.proofs.FullNamesLemmas.{space_name_of}
use Rattle.cil_resolve.proofs.DroppedLemmas.{found-more, optional-named, row-from, row-module, row-within, row-name}
use Rattle.cil_resolve.proofs.dropped.add_optional.Goals as goal

pub index-requires : goal.index-requires
index-requires g c =
    let (policy, (i, s, bound, here, at, is)) = c.requires.is in
    let from = row-from c.args.policy.now c.args.joined.now.modules.items policy i c.args.row.now s bound here at in
    let low : c.args.row.now.«module» < length c.args.joined.now.modules.items = from-within c.args.joined.now.modules.items c.args.row.now s from in
    search rules

pub statement-view-requires : goal.statement-view-requires
statement-view-requires g c =
    let (policy, (i, s, bound, here, at, is)) = c.requires.is in
    let from = row-from c.args.policy.now c.args.joined.now.modules.items policy i c.args.row.now s bound here at in
    (is-there c.args.joined.now.modules.items c.args.row.now c.index.result.now s from c.index.ensures).index

pub unreachable-requires : goal.unreachable-requires
unreachable-requires g c =
    let (policy, (i, s, bound, here, at, is)) = c.requires.is in
    let from = row-from c.args.policy.now c.args.joined.now.modules.items policy i c.args.row.now s bound here at in
    let there = is-there c.args.joined.now.modules.items c.args.row.now c.index.result.now s from c.index.ensures in
    let shown = c.statement-view.ensures there.statements there.f there.spells there.is in
    let (id, form) = optional-named s.form is in
    none-some id (sym (c.in_default.ensures.none (texts_of c.index.result.now.«module».now) there.f shown scopes) ∙ ap (declared_in scopes) (there.form ∙ form))

pub text-name-requires : goal.text-name-requires
text-name-requires g c =
    let (policy, (i, s, bound, here, at, is)) = c.requires.is in
    let from = row-from c.args.policy.now c.args.joined.now.modules.items policy i c.args.row.now s bound here at in
    let there = is-there c.args.joined.now.modules.items c.args.row.now c.index.result.now s from c.index.ensures in
    let it = c.in-Some.ensures.some (texts_of c.index.result.now.«module».now) there.f (c.statement-view.ensures there.statements there.f there.spells there.is) in
    read-within (texts_of c.index.result.now.«module».now) c.in-Some.id it.0 it.2

pub add_full_name-requires : goal.add_full_name-requires
add_full_name-requires g c =
    let (policy, (i, s, bound, here, at, is)) = c.requires.is in
    let low = row-within c.args.policy.now c.args.joined.now.modules.items policy i c.args.row.now s bound here at in
    let long = ap length c.requires.spaces ∙ length-map c.args.policy.now.lookup.namespaces (space_name_of c.args.policy.now.names) in
    omega (arith, low, long)

pub overflow_sub-len : goal.overflow_sub-len
overflow_sub-len g c =
    let more = ap length c.in_ok-add_full_name.ensures ∙ length-append c.args.found.now.names.items (name_in c.args.spaces.now c.args.row.now.namespace c.text-name.result.now) in
    let before = c.len-start.ensures in
    let behind = c.len.ensures in
    omega (arith, more, before, behind)

pub returns : goal.returns
returns g c = λ policy i s before bound here at is are.
    let p = c.args.policy.now in
    let parsed = c.args.joined.now.modules.items in
    let row = c.args.row.now in
    let old = c.args.found.now in
    let from = row-from p parsed policy i row s bound here at in
    let there = is-there parsed row c.index.result.now s from c.index.ensures in
    let texts = texts_of c.index.result.now.«module».now in
    let shown = c.statement-view.ensures there.statements there.f there.spells there.is in
    let it = c.in-Some.ensures.some texts there.f shown in
    let (id, form) = optional-named s.form is in
    let same = declares-one (table_of c.in-Some.field-0-0) scopes s.form it.0 id (ap (declared_in (table_of c.in-Some.field-0-0)) (sym there.form) ∙ it.1) (ap (declared_in scopes) form) in
    let name = row-name p parsed policy i row s bound here at c.args.spaces.now c.text-name.result.now c.requires.spaces
    ∙ ap (full_name s.namespace) (c.text-name.ensures ∙ sym (read-text texts c.in-Some.id it.0 it.2) ∙ ap (λ w. w.text) same) ∙ ap (λ f. full_name s.namespace (word_text (declared_in scopes f))) (sym form) in
    let d = declared_as scopes s in
    let names = c.in_ok-add_full_name.ensures ∙ ap (λ n. old.names.items ++ n) name in
    let more = ap length names ∙ length-append old.names.items d.name in
    let long : c.len.result - c.len-start.result ≡ length d.name = omega (arith, more) in
    found-more (modules_of c.args.joined.now) old _ before _ d are c.in_ok-push.ensures.items names
    (λ j. (row-module p parsed policy i row s bound here at j, ((shown.at ∙ there.place) j, long j)))
