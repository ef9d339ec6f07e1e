-- Set statements of two policies, read at places by the numbers of their names.
use Rattle.cil_matching.proofs.Common.{◌≡◌, ◌∙◌, ◌↔◌, ℕ, ◌<◌, Bool, true, List, length, map, position, slice_get, Option, None, Some, IsTrue, sym, ap, subst, arith, length-map, same_Some, slice_get_within, IsSameSet, SetStatement, set_content_of, sets_in, is_set_by, AreNumbers, Spot, same_spot, set_spot, StandAlike, numbered_in}
use Rattle.std.proofs.Common.{Err, IfOk, IfSome, Ok, Result}
use Rattle.std.specs.Result.{result_ok}
use Rattle.cil_resolve.specs.Below.{is_set_below}
use Rattle.cil_resolve.specs.Numbers.{set_of}
use Rattle.cil_resolve.specs.declared.numbered.NumberedSet.{NumberedSet}
use Rattle.cil_resolve.specs.declared.resolved.Resolved.{Resolved}
use Rattle.cil_matching.proofs.ContentLemmas.{set-says}
use Rattle.cil_matching.proofs.MatchedLemmas.{mapped-there, to-mapped}
use Rattle.cil_matching.proofs.SpotLemmas.{found-spot}

module _ {A : Type 0} (p : Resolved A) (i : ℕ) (x : NumberedSet A) (at : slice_get (numbered_in p) i ≡ Some x) where
  named : slice_get (sets_in p) i ≡ Some (set_of p.modules.items p.names.items x)
  named = to-mapped (set_of p.modules.items p.names.items) (numbered_in p) i x at

  -- it is the one by names
  pub set-named : (s : SetStatement) → slice_get (sets_in p) i ≡ Some s → set_of p.modules.items p.names.items x ≡ s
  set-named s here = same_Some (set_of p.modules.items p.names.items x) s (sym named ∙ here)

  -- and stands where that does
  pub set-stands : (spot : Spot) → slice_get (map set_spot (sets_in p)) i ≡ Some spot → set_spot (set_of p.modules.items p.names.items x) ≡ spot
  set-stands spot here =
      same_Some (set_spot (set_of p.modules.items p.names.items x)) spot
      (sym (to-mapped set_spot (sets_in p) i (set_of p.modules.items p.names.items x) named) ∙ here)

module _ {A : Type 0} (p q : Resolved A) (i j : ℕ) (alike : StandAlike p q i j) where
  -- one that stands alike with another stands somewhere
  pub alike-within : i < length (sets_in p) → j < length (sets_in q)
  alike-within low =
      let (spot, at) = mapped-there set_spot (sets_in p) i low in
      let below = slice_get_within (map set_spot (sets_in q)) j spot (alike spot at) in
      let long = length-map (sets_in q) set_spot in
      omega (arith, below, long)

  -- the test of what two say that stand alike, by their numbers
  pub sets-tell : (numbers : List (Option ℕ)) → AreNumbers p.names.items q.names.items numbers → (x y : NumberedSet A) (test : Bool)
      → slice_get (numbered_in p) i ≡ Some x → slice_get (numbered_in q) j ≡ Some y
      → is_set_below (length p.names.items) x ≡ true → is_set_below (length q.names.items) y ≡ true → test ≡ is_set_by numbers x y
      → (s t : SetStatement) → slice_get (sets_in p) i ≡ Some s → slice_get (sets_in q) j ≡ Some t → IsTrue test ↔ IsSameSet s t
  sets-tell numbers are x y test mine its low below is s t here there =
      let one = set-named p i x mine s here in
      let two = set-named q j y its t there in
      let spots : set_spot s ≡ set_spot t =
      same_Some (set_spot s) (set_spot t) (sym (alike (set_spot s) (to-mapped set_spot (sets_in p) i s here)) ∙ to-mapped set_spot (sets_in q) j t there) in
      let (to, from) = set-says p.names.items q.names.items numbers are p.modules.items q.modules.items x y low below in (
        λ passes. (
          ap (λ (z : Spot). z.module_name) spots,
          ap (λ (z : Spot). z.offset) spots,
          sym (ap set_content_of one) ∙ to (sym is ∙ passes) ∙ ap set_content_of two,
        ),
        λ same. is ∙ from (ap set_content_of one ∙ same.2 ∙ sym (ap set_content_of two)),
      )

-- what is found by its spot stands alike
pub found-alike : {A : Type 0} (p q : Resolved A) (i : ℕ) (spot : Spot) (place : Option ℕ) → slice_get (map set_spot (sets_in p)) i ≡ Some spot
    → place ≡ position (same_spot spot) (map set_spot (sets_in q)) → IfSome place (StandAlike p q i)
found-alike p q i spot None at is = tt
found-alike p q i spot (Some k) at is = λ other there. found-spot (map set_spot (sets_in q)) spot k (sym is) ∙ sym at ∙ there

-- so does what a search answers that stands alike
pub ok-alike : {A : Type 0} (p q : Resolved A) (i : ℕ) (r : Result ℕ ℕ) (place : Option ℕ) → place ≡ result_ok r → IfOk r (StandAlike p q i) → IfSome place (StandAlike p q i)
ok-alike p q i (Ok j) place is alike = subst (λ o. IfSome o (StandAlike p q i)) (sym is) alike
ok-alike p q i (Err j) place is alike = subst (λ o. IfSome o (StandAlike p q i)) (sym is) tt
