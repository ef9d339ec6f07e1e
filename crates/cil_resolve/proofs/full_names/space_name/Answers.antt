use Rattle.cil_resolve.proofs.Common.{◌∙◌, IfOk-weaker, ap, arith, sym}
use Rattle.cil_resolve.proofs.FullNamesLemmas.{each-name, space_name_of, word-within, space-named, word-some, word-is}
use Rattle.cil_resolve.proofs.full_names.space_name.Goals as goal

pub returns-in_default : goal.returns-in_default
returns-in_default g c = IfOk-weaker c.of.result _ _ (λ t is. is ∙ ap (space_name_of c.args.policy.now.names) (sym c.in_default.ensures.none)) c.of.ensures

pub unwrap-word-requires : goal.unwrap-word-requires
unwrap-word-requires g c =
    let p = c.args.policy.now in
    let b = c.in-Some.block in
    word-some p.names b.word c.name.result c.name.ensures (word-within p.names p.lookup.namespaces c.requires.numbered c.requires.global c.args.n b c.requires.within c.in-Some.ensures.some)

pub full_name-requires : goal.full_name-requires
full_name-requires g c =
    let p = c.args.policy.now in
    let within = c.requires.within in
    let outer = c.in-Some.ensures.within in
    let (long, each) = each-name p.names p.lookup.namespaces c.args.spaces.now c.args.n (omega (arith, within)) c.requires.in_front in
    omega (arith, outer, long)

pub returns : goal.returns
returns g c =
    let p = c.args.policy.now in
    let b = c.in-Some.block in
    space-named p.names p.lookup.namespaces c.requires.numbered c.requires.global c.args.spaces.now c.args.n b c.unwrap-word.result.now c.in_ok-name.name c.requires.within c.requires.in_front
    c.in-Some.ensures.some c.in-Some.ensures.within (word-is p.names b.word c.name.result c.unwrap-word.result c.name.ensures c.unwrap-word.ensures) c.in_ok-name.ensures
