use Rattle.cil_matching.proofs.Common.{◌≡◌, ◌∙◌, ℕ, ◌+◌, ◌∷◌, [], ◌++◌, true≢false, map, slice_get, None, Some, is_some, sym, ap, subst, arith, sets_in, ArePassed, set_spot, spot_of}
use Rattle.cil_matching.proofs.ApartLemmas.{apart-sets}
use Rattle.cil_matching.proofs.PassedLemmas.{new-known, passed-found-at, passed-more}
use Rattle.cil_matching.proofs.passed_over.passed_over.Goals.{then-is_none+in_ok-push+in_ok-add, else-is_none}
use Rattle.cil_matching.proofs.passed_over.passed_over.Goals as goal

pub add-requires : goal.add-requires
add-requires g c =
    let sets = sets_in c.args.resolved.now in
    new-known (map set_spot sets) c.args.found.now (apart-sets sets c.resolved_sets_are_apart.ensures.apart) c.loop-j.j c.loop-j.places.items c.loop-j.positions c.loop-j.invariant (spot_of c.position.result)
    c.position.ensures

pub loop-j-preserved : goal.loop-j-preserved
loop-j-preserved g c =
    let spots = map set_spot (sets_in c.args.resolved.now) in
    let found = c.args.found.now in
    let j = c.loop-j.j in
    elim c.if-is_none.branch [
      | then-is_none+in_ok-push+in_ok-add w ↦
          let p = spot_of w.position.result in
          let places : c.if-is_none.places.items ≡ c.loop-j.places.items ++ j ∷ [] = (λ k. (w.places-is k).items) ∙ w.in_ok-push.ensures.items in
          let positions : c.if-is_none.positions ≡ c.loop-j.positions ++ p ∷ [] = w.positions-is ∙ w.in_ok-add.ensures in
          subst (ArePassed spots found (j + 1) c.if-is_none.places.items) (sym positions)
          (subst (λ l. ArePassed spots found (j + 1) l (c.loop-j.positions ++ p ∷ [])) (sym places)
          (passed-more spots found j p c.loop-j.places.items c.loop-j.positions w.position.ensures c.loop-j.invariant))
      | else-is_none w ↦
          let there = λ (i : ℕ) (is : c.place_at.result ≡ Some i). (c.in_ok-back.ensures i j).0 (ap (λ l. slice_get l j) (sym c.deref.ensures.value) ∙ (c.place_at.ensures i).0 is) in
          let some = λ (none : c.place_at.result ≡ None). true≢false (sym w.if-is_none.ensures ∙ ap is_some none) in
          subst (ArePassed spots found (j + 1) c.if-is_none.places.items) (sym w.positions-is)
          (subst (λ l. ArePassed spots found (j + 1) l c.loop-j.positions) (λ k. (sym w.places-is k).items)
          (passed-found-at spots found j c.place_at.result c.loop-j.places.items c.loop-j.positions there some c.loop-j.invariant))
    ]

pub returns : goal.returns
returns g c =
    let sets = sets_in c.args.resolved.now in
    let many = c.sets_len-j-end.ensures in
    let past = c.loop-j-test.false in
    let end = c.loop-j.auto.j-end in
    subst (λ n. ArePassed (map set_spot sets) c.args.found.now n c.loop-j.places.items c.loop-j.positions) (omega (arith, many, past, end)) c.loop-j.invariant
