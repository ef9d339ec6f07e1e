use Rattle.cil_check.proofs.Common.{◌≡◌, Some, None, MatchOption, sym, ◌∙◌, subst, true≢false, arith, none-some, same_Some, slice_get_within, circular, IsFaultOf, type_attribute, IsLeast, IsGraphOf, fault_at}
use Rattle.cil_dependence.specs.Dependence.{IsStraight, IsFirst}
use Rattle.cil_check.proofs.AskedLemmas.{reads-word}
use Rattle.cil_check.proofs.CheckLemmas.{found-is, found-fault}
use Rattle.cil_check.proofs.CircleFaults.{circle-at, circle-within, edges-within, straight-faultless, first-circle, attribute-read}
use Rattle.cil_check.proofs.SetLemmas.{setless-faultless}
use Rattle.cil_check.proofs.checker.Checker.check_circles.Goals as goal

pub first_circle-requires : goal.first_circle-requires
first_circle-requires g c =
    let (policy, noted) = c.requires in
    let graph = subst (λ l. IsGraphOf policy l) (sym c.deref.ensures.value) (c.in_ok-graph.ensures policy noted.is (c.in_ok-attributes.ensures policy noted.is)) in
    record { nodes = edges-within policy c.deref.result.now noted.is.bound.once noted.is.spelt graph }

pub returns-in_default-clause-ok : goal.returns-in_default-clause-ok
returns-in_default-clause-ok g c = λ policy noted.
    let graph = subst (λ l. IsGraphOf policy l) (sym c.deref.ensures.value) (c.in_ok-graph.ensures policy noted.is (c.in_ok-attributes.ensures policy noted.is)) in
    let straight = subst (λ o. MatchOption o (IsStraight c.deref.result.now) (IsFirst c.deref.result.now)) c.in_default.is c.in_ok-number.ensures in
    straight-faultless policy c.deref.result.now noted.is.bound.once noted.is.spelt graph straight

pub index-requires : goal.index-requires
index-requires g c =
    let (policy, noted) = c.requires in
    let have = c.in_ok-attributes.ensures policy noted.is in
    let within = circle-within policy c.in_ok-attributes.attributes.numbers.items c.in_ok-attributes.attributes.places.items _ c.deref.result.now _ c.in-Some.number
    have (c.in_ok-graph.ensures policy noted.is have) c.deref.ensures.value c.in_ok-number.ensures c.in-Some.is in
    omega (arith, within, c.in_ok-attributes.attributes.places.ok.0)

pub seen-seen-requires : goal.seen-seen-requires
seen-seen-requires g c =
    let (policy, noted) = c.requires in
    let have = c.in_ok-attributes.ensures policy noted.is in
    let (s, numbered) = circle-at policy c.in_ok-attributes.attributes.numbers.items c.in_ok-attributes.attributes.places.items _ c.deref.result.now _ c.in-Some.number
    have (c.in_ok-graph.ensures policy noted.is have) c.deref.ensures.value c.in_ok-number.ensures c.in-Some.is c.index.result.now c.index.ensures in
    record { is = (policy, noted.is, slice_get_within policy c.index.result.now s numbered.at) }

pub unreachable-requires : goal.unreachable-requires
unreachable-requires g c =
    let (policy, noted) = c.requires in
    let have = c.in_ok-attributes.ensures policy noted.is in
    let (s, numbered) = circle-at policy c.in_ok-attributes.attributes.numbers.items c.in_ok-attributes.attributes.places.items _ c.deref.result.now _ c.in-Some.number
    have (c.in_ok-graph.ensures policy noted.is have) c.deref.ensures.value c.in_ok-number.ensures c.in-Some.is c.index.result.now c.index.ensures in
    let (id, form, reads) = attribute-read c.seen-seen.result policy s None (c.seen-seen.ensures.seen policy s noted.is numbered.at) numbered.is (sym c.in_default-word.is ∙ c.word.ensures) in
    none-some (Some id) reads

pub fault-requires : goal.fault-requires
fault-requires g c =
    let (policy, noted) = c.requires in
    let have = c.in_ok-attributes.ensures policy noted.is in
    let (s, numbered) = circle-at policy c.in_ok-attributes.attributes.numbers.items c.in_ok-attributes.attributes.places.items _ c.deref.result.now _ c.in-Some.number
    have (c.in_ok-graph.ensures policy noted.is have) c.deref.ensures.value c.in_ok-number.ensures c.in-Some.is c.index.result.now c.index.ensures in
    let (id, form, reads) = attribute-read c.seen-seen.result policy s (Some c.in-Some-word.word) (c.seen-seen.ensures.seen policy s noted.is numbered.at) numbered.is (sym c.in-Some-word.is ∙ c.word.ensures) in
    let found = reads-word c.seen-seen.result c.in-Some-word.word (Some id) reads in
    (found.0, found.2)

pub returns-clause-err : goal.returns-clause-err
returns-clause-err g c = λ policy noted.
    let have = c.in_ok-attributes.ensures policy noted.is in
    let graph = subst (λ l. IsGraphOf policy l) (sym c.deref.ensures.value) (c.in_ok-graph.ensures policy noted.is have) in
    let first = subst (λ o. MatchOption o (IsStraight c.deref.result.now) (IsFirst c.deref.result.now)) c.in-Some.is c.in_ok-number.ensures in
    let (s, numbered) = circle-at policy c.in_ok-attributes.attributes.numbers.items c.in_ok-attributes.attributes.places.items _ c.deref.result.now _ c.in-Some.number
    have (c.in_ok-graph.ensures policy noted.is have) c.deref.ensures.value c.in_ok-number.ensures c.in-Some.is c.index.result.now c.index.ensures in
    let seen = c.seen-seen.ensures.seen policy s noted.is numbered.at in
    let (id, form, reads) = attribute-read c.seen-seen.result policy s (Some c.in-Some-word.word) seen numbered.is (sym c.in-Some-word.is ∙ c.word.ensures) in
    let found = reads-word c.seen-seen.result c.in-Some-word.word (Some id) reads in
    let declares = subst (λ w. s.form ≡ type_attribute w) (same_Some id found.0 found.1) form in
    found-fault c.fault.result (IsLeast (IsFaultOf circular policy))
    (found-is c.fault.result (IsLeast (IsFaultOf circular policy)) (fault_at circular s found.0) (c.fault.ensures policy s found.0 seen found.2)
    (first-circle policy c.deref.result.now noted.is.bound.once noted.is.spelt graph c.in-Some.number c.index.result.now s found.0 noted.is.ordered first numbered declares))

pub returns-then-not-has_sets-clause-ok : goal.returns-then-not-has_sets-clause-ok
returns-then-not-has_sets-clause-ok g c = λ policy noted fault f.
    let told = (c.has_sets.ensures policy noted.is).1 (λ none. setless-faultless policy none fault f) in
    absurd (true≢false (sym told ∙ c.if-not-has_sets.true))
