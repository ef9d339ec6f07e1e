use Rattle.cil_check.proofs.Common.{◌<◌, length, arith, rules, subst, sym, AreNumbersOf, names_of}
use Rattle.cil_bind.proofs.WordLemmas.{worded-at, worded-long}
use Rattle.cil_bind.proofs.FromLemmas.{is-there, from-within}
use Rattle.cil_check.proofs.SeenLemmas.{is-long, row-there, seen-there}
use Rattle.cil_check.proofs.bound.BoundPolicy.seen.Goals as goal

pub index-row-requires : goal.index-row-requires
index-row-requires g c =
    let long = is-long c.args.self.now c.requires.is.0 c.requires.is.1 in
    let less = c.requires.is.2 in
    let low : c.args.i < length c.args.self.now.policy.now.rows.items = omega (arith, long, less) in
    search rules

pub index-named-requires : goal.index-named-requires
index-named-requires g c =
    let from = row-there c.args.self.now c.requires.is.0 c.args.i c.index-row.result.now c.requires.is.1 c.requires.is.2 c.index-row.ensures in
    let low : c.index-row.result.now.«module» < length c.args.self.now.joined.now.modules.items = from-within c.args.self.now.joined.now.modules.items c.index-row.result.now from.0 from.2 in
    search rules

pub statement-requires : goal.statement-requires
statement-requires g c =
    let from = row-there c.args.self.now c.requires.is.0 c.args.i c.index-row.result.now c.requires.is.1 c.requires.is.2 c.index-row.ensures in
    (is-there c.args.self.now.joined.now.modules.items c.index-row.result.now c.index-named.result.now from.0 from.2 c.index-named.ensures).index

pub references-requires : goal.references-requires
references-requires g c = c.requires.is

pub index-requires : goal.index-requires
index-requires g c =
    let from = row-there c.args.self.now c.requires.is.0 c.args.i c.index-row.result.now c.requires.is.1 c.requires.is.2 c.index-row.ensures in
    let low = from-within c.args.self.now.joined.now.modules.items c.index-row.result.now from.0 from.2 in
    let long = worded-long c.args.self.now.policy.now.names c.args.self.now.policy.now.words.items c.args.self.now.joined.now.modules.items c.requires.is.1.bound.worded in
    let there : c.index-row.result.now.«module» < length c.args.self.now.policy.now.words.items = omega (arith, low, long) in
    search rules

pub returns-clause-seen : goal.returns-clause-seen
returns-clause-seen g c policy s is at =
    seen-there c.args.self.now policy c.args.i c.index-row.result.now c.index-named.result.now c.statement.result c.references.result c.as_slice.result s is at c.index-row.ensures c.index-named.ensures c.statement.ensures (c.references.ensures policy s is at)

pub returns-clause-worded : goal.returns-clause-worded
returns-clause-worded g c policy is =
    let from = row-there c.args.self.now policy c.args.i c.index-row.result.now is (let long = is-long c.args.self.now policy is in let other = is-long c.args.self.now c.requires.is.0 c.requires.is.1 in let less = c.requires.is.2 in omega (arith, long, other, less)) c.index-row.ensures in
    subst (λ l. AreNumbersOf c.args.self.now.policy.now.names l (names_of c.index-named.result.now.«module».now)) (sym c.as_slice.ensures.value)
    (worded-at c.args.self.now.policy.now.names c.args.self.now.policy.now.words.items c.args.self.now.joined.now.modules.items c.index-row.result.now.«module» c.index.result.now c.index-named.result.now is.bound.worded
    (from-within c.args.self.now.joined.now.modules.items c.index-row.result.now from.0 from.2) c.index.ensures c.index-named.ensures)
