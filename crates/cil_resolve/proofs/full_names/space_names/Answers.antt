use Rattle.cil_resolve.proofs.Common.{◌≤◌, ◌<◌, ◌++◌, ◌∷◌, ◌∙◌, [], ap, arith, get_or, length, map, slice_get-get_or, sym, take_all}
use Rattle.cil_resolve.proofs.FullNamesLemmas.{space_name_of}
use Rattle.cil_resolve.proofs.StatementLemmas.{map-one}
use Rattle.cil_resolve.proofs.full_names.space_names.Goals as goal

pub loop-n-init : goal.loop-n-init
loop-n-init g c = c.in_ok-names.ensures.items

pub space_name-requires-clause-within : goal.space_name-requires-clause-within
space_name-requires-clause-within g c =
    let long = c.len-count.ensures.len in
    let low = c.loop-n-test.true in
    omega (arith, long, low)

pub space_name-requires-clause-in_front : goal.space_name-requires-clause-in_front
space_name-requires-clause-in_front g c = c.deref.ensures.value ∙ c.loop-n.invariant

pub loop-n-preserved : goal.loop-n-preserved
loop-n-preserved g c =
    let p = c.args.policy.now in
    let n = c.loop-n.n in
    let long = c.len-count.ensures.len in
    let test = c.loop-n-test.true in
    let low : n < length p.lookup.namespaces = omega (arith, long, test) in
    c.in_ok-push.ensures.items ∙ (λ j. c.loop-n.invariant j ++ c.in_ok-name.ensures j ∷ [])
    ∙ sym (map-one (space_name_of p.names) p.lookup.namespaces n (get_or p.lookup.namespaces n []) (slice_get-get_or p.lookup.namespaces n [] low))

pub returns : goal.returns
returns g c =
    let p = c.args.policy.now in
    let long = c.len-count.ensures.len in
    let test = c.loop-n-test.false in
    let past : length p.lookup.namespaces ≤ c.loop-n.n = omega (arith, long, test) in
    c.loop-n.invariant ∙ ap (map (space_name_of p.names)) (take_all c.loop-n.n p.lookup.namespaces past)
