use Rattle.cil_store.proofs.Common.{sym, subst, IsStrictlySortedBy, name_cmp, Store, meaning_in, active, active-ascend, refusal_of, AreParsedOf}
use Rattle.cil_store.proofs.JoinLemmas.{parsed-names, distinct-from_sorted, permutation-one}
use Rattle.cil_store.proofs.ParsedLemmas.{kept-modules}
use Rattle.cil_store.proofs.StepLemmas.{policy-refused, store-meaning}
use Rattle.cil_store.proofs.resolving.resolve_modules.Goals as goal

pub join-joined-requires : goal.join-joined-requires
join-joined-requires g c =
    let store : Store = c.requires.0 in
    let are = c.in_ok-borrowed.ensures (active store) c.requires.2 in
    let rise = subst (IsStrictlySortedBy name_cmp) (sym (parsed-names (active store) c.in_ok-borrowed.borrowed.items are)) (active-ascend store c.requires.1.entries) in
    distinct-from_sorted (λ m. m.name.now) c.in_ok-borrowed.borrowed.items rise

pub resolve-requires : goal.resolve-requires
resolve-requires g c =
    let store : Store = c.requires.0 in
    let are = c.in_ok-borrowed.ensures (active store) c.requires.2 in
    let rise = subst (IsStrictlySortedBy name_cmp) (sym (parsed-names (active store) c.in_ok-borrowed.borrowed.items are)) (active-ascend store c.requires.1.entries) in
    let same = permutation-one (λ m. m.name.now) c.in_ok-borrowed.borrowed.items c.join-joined.result.modules.items rise c.join-joined.result.ordered c.join-joined.ensures in
    let kept = kept-modules (active store) c.join-joined.result.modules.items (subst (AreParsedOf (active store)) (sym same) are) in
    (kept.0, kept.1)

pub returns-clause-err : goal.returns-clause-err
returns-clause-err g c = λ (store : Store) ordered shared.
    let are = c.in_ok-borrowed.ensures (active store) shared in
    let rise = subst (IsStrictlySortedBy name_cmp) (sym (parsed-names (active store) c.in_ok-borrowed.borrowed.items are)) (active-ascend store ordered.entries) in
    let same = permutation-one (λ m. m.name.now) c.in_ok-borrowed.borrowed.items c.join-joined.result.modules.items rise c.join-joined.result.ordered c.join-joined.ensures in
    let kept = kept-modules (active store) c.join-joined.result.modules.items (subst (AreParsedOf (active store)) (sym same) are) in
    policy-refused c.in-Err.fault (refusal_of c.refuse_policy.result) store kept.0 kept.2 (c.in-Err.ensures.err kept.0 kept.1) c.refuse_policy.ensures

pub returns-in-Ok-clause-ok : goal.returns-in-Ok-clause-ok
returns-in-Ok-clause-ok g c = λ (store : Store) ordered shared.
    let are = c.in_ok-borrowed.ensures (active store) shared in
    let rise = subst (IsStrictlySortedBy name_cmp) (sym (parsed-names (active store) c.in_ok-borrowed.borrowed.items are)) (active-ascend store ordered.entries) in
    let same = permutation-one (λ m. m.name.now) c.in_ok-borrowed.borrowed.items c.join-joined.result.modules.items rise c.join-joined.result.ordered c.join-joined.ensures in
    let kept = kept-modules (active store) c.join-joined.result.modules.items (subst (AreParsedOf (active store)) (sym same) are) in
    store-meaning store kept.0 (meaning_in c.in-Ok.resolved) kept.2 (c.in-Ok.ensures.meaning kept.0 kept.1)
