use Rattle.std.proofs.Common.{IfSome}
use Rattle.cil_matching.proofs.Common.{◌∙◌, sym, subst, IsSameSet, sets_in, set_spot, StandAlike}
use Rattle.cil_matching.proofs.ApartLemmas.{sets-agree, apart-sets}
use Rattle.cil_matching.proofs.MatchedLemmas.{found-tested, mapped-there, none-same, tested-right}
use Rattle.cil_matching.proofs.SetLemmas.{alike-within, sets-tell}
use Rattle.cil_matching.proofs.set_walk.same.Goals as goal

pub numbered_at-requires : goal.numbered_at-requires
numbered_at-requires g c =
    alike-within c.args.old.now c.args.new.now c.args.i c.in_ok-j.j
    (subst (λ o. IfSome o (StandAlike c.args.old.now c.args.new.now c.args.i)) c.in_ok-j.was c.requires.alike) c.requires.within

pub returns-in_err-j-clause-certain : goal.returns-in_err-j-clause-certain
returns-in_err-j-clause-certain g c j same told =
    let olds = sets_in c.args.old.now in
    let news = sets_in c.args.new.now in
    let (p, at) = mapped-there set_spot olds c.args.i c.requires.within in
    c.from_residual.ensures
    ∙ (none-same IsSameSet olds news set_spot sets-agree c.args.i p (apart-sets news c.resolved_sets_are_apart.ensures.apart) at (sym (told p at) ∙ c.in_err-j.was) j).1 same

pub returns-clause-right : goal.returns-clause-right
returns-clause-right g c j is =
    let old = c.args.old.now in
    let new = c.args.new.now in
    let alike = subst (λ o. IfSome o (StandAlike old new c.args.i)) c.in_ok-j.was c.requires.alike in
    tested-right IsSameSet (sets_in old) (sets_in new) c.args.i c.in_ok-j.j j c.is_same_set.result c.requires.within (alike-within old new c.args.i c.in_ok-j.j alike c.requires.within)
    (sets-tell old new c.args.i c.in_ok-j.j alike c.args.numbers.now c.requires.numbers c.numbered_at-set.result.now c.numbered_at.result.now c.is_same_set.result
    c.numbered_at-set.ensures.stands c.numbered_at.ensures.stands c.numbered_at-set.ensures.within c.numbered_at.ensures.within c.is_same_set.ensures) (sym c.then_some.ensures ∙ is)

pub returns-clause-certain : goal.returns-clause-certain
returns-clause-certain g c j same told =
    let old = c.args.old.now in
    let new = c.args.new.now in
    let alike = subst (λ o. IfSome o (StandAlike old new c.args.i)) c.in_ok-j.was c.requires.alike in
    let (p, at) = mapped-there set_spot (sets_in old) c.args.i c.requires.within in
    c.then_some.ensures
    ∙ (found-tested IsSameSet (sets_in old) (sets_in new) set_spot sets-agree c.args.i c.in_ok-j.j p c.is_same_set.result (apart-sets (sets_in new) c.resolved_sets_are_apart.ensures.apart) at
    (sym (told p at) ∙ c.in_ok-j.was)
    (sets-tell old new c.args.i c.in_ok-j.j alike c.args.numbers.now c.requires.numbers c.numbered_at-set.result.now c.numbered_at.result.now c.is_same_set.result
    c.numbered_at-set.ensures.stands c.numbered_at.ensures.stands c.numbered_at-set.ensures.within c.numbered_at.ensures.within c.is_same_set.ensures) j).1 same
