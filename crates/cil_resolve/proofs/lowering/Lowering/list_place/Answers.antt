use Rattle.cil_resolve.proofs.Common.{◌<◌, ◌∙◌, [], length, get_or, arith, rules, ap, sym, subst, get_or-map, texts, permissions_in, permission_lists_of, is-there, from-within, is-long, row-there, form-there}
use Rattle.cil_resolve.proofs.lowering.Lowering.list_place.Goals as goal

pub index-row-requires : goal.index-row-requires
index-row-requires g c =
    let (policy, is, less) = c.requires in
    let bound = c.args.self.now.checker.now.bound in
    let long = is-long bound policy is.noted.is in
    let low : c.args.i < length bound.policy.now.rows.items = omega (arith, long, less) in
    search rules

pub index-named-requires : goal.index-named-requires
index-named-requires g c =
    let (policy, is, less) = c.requires in
    let bound = c.args.self.now.checker.now.bound in
    let row = c.index-row.result.now in
    let from = row-there bound policy c.args.i row is.noted.is less c.index-row.ensures in
    let low : row.«module» < length bound.joined.now.modules.items = from-within bound.joined.now.modules.items row from.0 from.2 in
    search rules

pub permission_list-requires : goal.permission_list-requires
permission_list-requires g c =
    let (policy, is, less) = c.requires in
    let bound = c.args.self.now.checker.now.bound in
    let row = c.index-row.result.now in
    let from = row-there bound policy c.args.i row is.noted.is less c.index-row.ensures in
    (is-there bound.joined.now.modules.items row c.index-named.result.now from.0 from.2 c.index-named.ensures).index

pub returns-clause-within : goal.returns-clause-within
returns-clause-within g c =
    let bound = c.args.self.now.checker.now.bound in
    let from = row-there bound c.requires.0 c.args.i c.index-row.result.now c.requires.1.noted.is c.requires.2 c.index-row.ensures in
    from-within bound.joined.now.modules.items c.index-row.result.now from.0 from.2

pub returns-clause-there : goal.returns-clause-there
returns-clause-there g c =
    let bound = c.args.self.now.checker.now.bound in
    let row = c.index-row.result.now in
    let named = c.index-named.result.now in
    let modules = bound.joined.now.modules.items in
    let from = row-there bound c.requires.0 c.args.i row c.requires.1.noted.is c.requires.2 c.index-row.ensures in
    let low = from-within modules row from.0 from.2 in
    let lists = get_or-map (λ d. permission_lists_of d.«module».now) modules row.«module» named [] low ∙ ap (λ d. permission_lists_of d.«module».now) (sym c.index-named.ensures) in
    subst (λ l. c.permission_list.result < length l) (sym lists) c.permission_list.ensures.within

pub returns-clause-list : goal.returns-clause-list
returns-clause-list g c policy s is at =
    let bound = c.args.self.now.checker.now.bound in
    let row = c.index-row.result.now in
    let named = c.index-named.result.now in
    let modules = bound.joined.now.modules.items in
    let there = form-there bound policy c.args.i row named s is.noted.is at c.index-row.ensures c.index-named.ensures in
    let from = row-there bound c.requires.0 c.args.i row c.requires.1.noted.is c.requires.2 c.index-row.ensures in
    let low = from-within modules row from.0 from.2 in
    let lists = get_or-map (λ d. permission_lists_of d.«module».now) modules row.«module» named [] low ∙ ap (λ d. permission_lists_of d.«module».now) (sym c.index-named.ensures) in
    ap (λ l. get_or l c.permission_list.result []) lists
    ∙ (c.permission_list.ensures.list there.statements there.f there.spells there.is ∙ ap (λ f. texts (permissions_in f)) there.form)
