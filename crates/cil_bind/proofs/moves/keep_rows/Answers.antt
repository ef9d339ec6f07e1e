use Rattle.cil_bind.proofs.Common.{◌<◌, ◌≤◌, ◌^◌, filter, length, rules, refl, sym, ap, ◌∙◌, subst, arith, take_all, kinds_told}
use Rattle.cil_bind.specs.Moves.{mark, places_told}
use Rattle.cil_bind.proofs.KeptRowLemmas.{none-taken-yet}
use Rattle.cil_bind.proofs.moves.keep_rows.Goals as goal

pub loop-i-init : goal.loop-i-init
loop-i-init g c =
    none-taken-yet c.args.kept.now c.args.rows.now.items c.args.rows.now.items c.args.kinds.now.items _ refl c.requires.kinds refl c.in_ok-with_capacity.ensures.items

pub take-requires-clause-behind : goal.take-requires-clause-behind
take-requires-clause-behind g c = c.loop-i.invariant.behind

pub take-requires-clause-kinds : goal.take-requires-clause-kinds
take-requires-clause-kinds g c = c.loop-i.invariant.kinds_long

pub take-requires-clause-within : goal.take-requires-clause-within
take-requires-clause-within g c =
    let long = c.loop-i.invariant.long in
    let low : c.loop-i.i < length c.args.rows.now.items = search rules in
    omega (arith, long, low)

pub take-requires-clause-few : goal.take-requires-clause-few
take-requires-clause-few g c = subst (λ n. n < 2 ^ 32) (sym c.loop-i.invariant.long) c.requires.few

pub loop-i-preserved : goal.loop-i-preserved
loop-i-preserved g c = c.in_ok-take.ensures c.args.rows.now.items c.loop-i.invariant

pub returns-clause-rows : goal.returns-clause-rows
returns-clause-rows g c =
    let past : length c.args.rows.now.items ≤ c.loop-i.i = search rules in
    c.truncate.ensures.items ∙ c.loop-i.invariant.front ∙ ap (filter (mark c.args.kept.now)) (take_all c.loop-i.i c.args.rows.now.items past)

pub returns-clause-kinds : goal.returns-clause-kinds
returns-clause-kinds g c = c.truncate-2.ensures.items ∙ c.loop-i.invariant.kinds_are ∙ ap kinds_told (sym c.truncate.ensures.items)

pub returns-clause-places : goal.returns-clause-places
returns-clause-places g c =
    let past : length c.args.rows.now.items ≤ c.loop-i.i = search rules in
    c.loop-i.invariant.places_are ∙ ap (places_told c.args.kept.now 0) (take_all c.loop-i.i c.args.rows.now.items past)
