use Rattle.cil_matching.proofs.Common.{◌≡◌, ◌∙◌, ◌<◌, false, true≢false, AllPairs, List, Option, is_some, refl, ℕ, ◌+◌, get_or, length, map, position, set, slice_get, None, Some, sym, ap, subst, arith, length-map, same_Some, slice_get-get_or, IsSameSet, sets_in, AreRight, ArePassed, Spot, set_spot, same_spot, spot_of}
use Rattle.std.specs.Option.{option_and_then}
use Rattle.cil_resolve.specs.Apart.{StandApart}
use Rattle.cil_resolve.specs.declared.resolved.Resolved.{Resolved}
use Rattle.cil_matching.proofs.ApartLemmas.{sets-agree, apart-sets}
use Rattle.cil_matching.proofs.FilledLemmas.{AreFilled, filled-first, filled-set, filled-kept, filled-all, open-apart, some-from}
use Rattle.cil_matching.proofs.MatchedLemmas.{right-below, right-apart}
use Rattle.cil_matching.proofs.PassedLemmas.{passed-place}
use Rattle.cil_matching.proofs.SetLemmas.{found-alike}
use Rattle.cil_matching.proofs.set_matching.set_places.Goals.{then-is_none+in_ok-places-2, else-is_none}
use Rattle.cil_matching.proofs.set_matching.set_places.Goals as goal

pub passed_over-requires-clause-below : goal.passed_over-requires-clause-below
passed_over-requires-clause-below g c i j at =
    right-below IsSameSet (sets_in c.args.old.now) (sets_in c.args.new.now) (length (sets_in c.args.old.now)) c.in_ok-places.places.items c.in_ok-places.ensures i j
    (ap (λ l. slice_get l i) (sym c.deref-3.ensures.value) ∙ at)

pub passed_over-requires-clause-apart : goal.passed_over-requires-clause-apart
passed_over-requires-clause-apart g c i k j first second =
    let olds = sets_in c.args.old.now in
    let news = sets_in c.args.new.now in
    right-apart IsSameSet olds news set_spot sets-agree (length olds) c.in_ok-places.places.items (apart-sets olds c.resolved_sets_are_apart.ensures.apart) c.in_ok-places.ensures i k j
    (ap (λ l. slice_get l i) (sym c.deref-3.ensures.value) ∙ first) (ap (λ l. slice_get l k) (sym c.deref-3.ensures.value) ∙ second)

none-from : (o : Option ℕ) → is_some o ≡ false → o ≡ None
none-from None is = refl
none-from (Some k) is = absurd (true≢false is)

-- a place that is read, and is none
lacking : (places : List (Option ℕ)) (i : ℕ) (x o : Option ℕ) → i < length places → x ≡ get_or places i x → o ≡ x → is_some o ≡ false → slice_get places i ≡ Some None
lacking places i x o within is told none = slice_get-get_or places i x within ∙ ap Some (sym is ∙ sym told ∙ none-from o none)

module _ {A : Type 0} (old new : Resolved A) (old_apart : AllPairs StandApart (sets_in old)) (new_apart : AllPairs StandApart (sets_in new)) where
  -- one that has no place is found among those that the walk passed over, wherever the new policy has it
  looked-up : (i : ℕ) (first places : List (Option ℕ)) (passed : List ℕ) (known : List Spot) (p : Spot) → AreRight IsSameSet (sets_in old) (sets_in new) (length (sets_in old)) first
      → slice_get places i ≡ Some None → AreFilled IsSameSet (sets_in old) (sets_in new) i first places → slice_get (map set_spot (sets_in old)) i ≡ Some p
      → ArePassed (map set_spot (sets_in new)) first (length (sets_in new)) passed known
      → option_and_then (slice_get passed) (position (same_spot p) known) ≡ position (same_spot p) (map set_spot (sets_in new))
  looked-up i first places passed known p right lacks filled at are =
      passed-place (map set_spot (sets_in new)) first (apart-sets (sets_in new) new_apart) (length (sets_in new)) passed known are p (length-map (sets_in new) set_spot)
      (open-apart IsSameSet (sets_in old) (sets_in new) set_spot sets-agree i first places (length (sets_in old)) p (apart-sets (sets_in old) old_apart) right lacks filled.kept at)

pub loop-i-init : goal.loop-i-init
loop-i-init g c =
    let news = sets_in c.args.new.now in
    filled-first IsSameSet (sets_in c.args.old.now) news set_spot sets-agree c.first_open-open.result c.in_ok-places.places.items (apart-sets news c.resolved_sets_are_apart-2.ensures.apart)
    c.in_ok-places.ensures
    (λ i low. let (k, at) = c.first_open-open.ensures i low in (k, ap (λ l. slice_get l i) (sym c.deref-2.ensures.value) ∙ at))

pub loop-i-preserved : goal.loop-i-preserved
loop-i-preserved g c =
    let olds = sets_in c.args.old.now in
    let news = sets_in c.args.new.now in
    let first = c.in_ok-places.places.items in
    let places = c.loop-i.places.items in
    let i = c.loop-i.i in
    let x = c.index.result.now in
    let many = c.sets_len-i-end.ensures in
    let test = c.loop-i-test.true in
    let long = c.loop-i.invariant.are.long in
    let within : i < length places = omega (arith, many, test, long) in
    elim c.if-is_none.branch [
      | then-is_none+in_ok-places-2 w ↦
          let p = spot_of w.position.result in
          let lacks = lacking places i x c.place_of.result within c.index.ensures c.place_of.ensures w.if-is_none.ensures in
          let passed = subst (λ l. ArePassed (map set_spot news) l (length news) c.in_ok-passed.passed.places.items c.in_ok-passed.passed.positions) c.deref-3.ensures.value c.in_ok-passed.ensures in
          let place =
          w.find.ensures
          ∙ looked-up c.args.old.now c.args.new.now c.resolved_sets_are_apart.ensures.apart c.resolved_sets_are_apart-2.ensures.apart i first places c.in_ok-passed.passed.places.items
          c.in_ok-passed.passed.positions p c.in_ok-places.ensures lacks c.loop-i.invariant w.position.ensures passed in
          let told = λ (spot : Spot) (there : slice_get (map set_spot olds) i ≡ Some spot).
          subst (λ q. w.find.result ≡ position (same_spot q) (map set_spot news)) (same_Some p spot (sym w.position.ensures ∙ there)) place in
          subst (AreFilled IsSameSet olds news (i + 1) first) (λ k. (sym w.places-is k).items)
          (subst (λ o. AreFilled IsSameSet olds news (i + 1) first (set places i o)) (sym w.in_ok-places-2.ensures)
          (filled-set IsSameSet olds news i first places w.same.result lacks w.same.ensures.right (λ j same. w.same.ensures.certain j same told) c.loop-i.invariant))
      | else-is_none w ↦
          let (k, is) = some-from c.place_of.result w.if-is_none.ensures in
          let at : slice_get places i ≡ Some (Some k) = slice_get-get_or places i x within ∙ ap Some (sym c.index.ensures ∙ sym c.place_of.ensures ∙ is) in
          subst (AreFilled IsSameSet olds news (i + 1) first) (λ m. (sym w.places-is m).items)
          (filled-kept IsSameSet olds news set_spot sets-agree i k first places (apart-sets news c.resolved_sets_are_apart-2.ensures.apart) at c.loop-i.invariant)
    ]

pub same-requires-clause-alike : goal.same-requires-clause-alike
same-requires-clause-alike g c =
    let i = c.loop-i.i in
    let p = spot_of c.position.result in
    let many = c.sets_len-i-end.ensures in
    let test = c.loop-i-test.true in
    let long = c.loop-i.invariant.are.long in
    let lacks = lacking c.loop-i.places.items i c.index.result.now c.place_of.result (omega (arith, many, test, long)) c.index.ensures c.place_of.ensures c.if-is_none.ensures in
    let news = sets_in c.args.new.now in
    let passed = subst (λ l. ArePassed (map set_spot news) l (length news) c.in_ok-passed.passed.places.items c.in_ok-passed.passed.positions) c.deref-3.ensures.value c.in_ok-passed.ensures in
    found-alike c.args.old.now c.args.new.now i p c.find.result c.position.ensures
    (c.find.ensures
    ∙ looked-up c.args.old.now c.args.new.now c.resolved_sets_are_apart.ensures.apart c.resolved_sets_are_apart-2.ensures.apart i c.in_ok-places.places.items c.loop-i.places.items
    c.in_ok-passed.passed.places.items c.in_ok-passed.passed.positions p c.in_ok-places.ensures lacks c.loop-i.invariant c.position.ensures passed)

-- all were found by the walk
pub returns-then-open-len : goal.returns-then-open-len
returns-then-open-len g c =
    let olds = sets_in c.args.old.now in
    let news = sets_in c.args.new.now in
    let first = c.in_ok-places.places.items in
    let long = c.in_ok-places.ensures.long in
    let all = c.len.ensures in
    let is = c.if-open-len.true in
    filled-all IsSameSet olds news c.first_open-open.result first first (omega (arith, long, all, is))
    (filled-first IsSameSet olds news set_spot sets-agree c.first_open-open.result first (apart-sets news c.resolved_sets_are_apart-2.ensures.apart) c.in_ok-places.ensures
    (λ i low. let (k, at) = c.first_open-open.ensures i low in (k, ap (λ l. slice_get l i) (sym c.deref-2.ensures.value) ∙ at)))

pub returns : goal.returns
returns g c =
    let many = c.sets_len-i-end.ensures in
    let past = c.loop-i-test.false in
    filled-all IsSameSet (sets_in c.args.old.now) (sets_in c.args.new.now) c.loop-i.i c.in_ok-places.places.items c.loop-i.places.items (omega (arith, many, past)) c.loop-i.invariant
