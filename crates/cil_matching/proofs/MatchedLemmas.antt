-- Statements that stand in two lists.
use Rattle.cil_matching.proofs.Common.{◌≡◌, ◌∙◌, ◌↔◌, ℕ, zero, suc, ◌+◌, ◌<◌, ◌≤◌, inl, inr, Bool, true, false, true≢false, List, ◌∷◌, [], ◌++◌, length, map, position, slice_get, Option, None, Some, option_map, IsTrue, refl, sym, ap, subst, arith, cases_lt, length-append, none-some, same_Some, slice_get_within, slice_get-map, get-append, get-last, AreSameAt, AreMatched, ArePlaces, AreRight, Spot, same_spot, AreApart}
use Rattle.std.specs.Bool.{then_some}
use Rattle.cil_needs.proofs.DependentLemmas.{got-push}
use Rattle.cil_matching.proofs.SpotLemmas.{found-spot, stands-found}

-- what stands in a list stands where its image does
pub from-mapped : {X Y : Type 0} (f : X → Y) (xs : List X) (i : ℕ) (y : Y) → slice_get (map f xs) i ≡ Some y → (x : X) × (slice_get xs i ≡ Some x) × (f x ≡ y)
from-mapped f xs i y at = by (slice_get xs i) refl
  where
    by : (o : Option _) → slice_get xs i ≡ o → (x : _) × (slice_get xs i ≡ Some x) × (f x ≡ y)
    by None is = absurd (none-some y (sym (slice_get-map f xs i ∙ ap (option_map f) is) ∙ at))
    by (Some x) is = (x, is, same_Some (f x) y (sym (slice_get-map f xs i ∙ ap (option_map f) is) ∙ at))

pub to-mapped : {X Y : Type 0} (f : X → Y) (xs : List X) (i : ℕ) (x : X) → slice_get xs i ≡ Some x → slice_get (map f xs) i ≡ Some (f x)
to-mapped f xs i x at = slice_get-map f xs i ∙ ap (option_map f) at

-- a place below the length has something
pub there-is : {X : Type 0} (xs : List X) (i : ℕ) → i < length xs → (x : X) × (slice_get xs i ≡ Some x)
there-is [] i low = absurd (omega (arith, low))
there-is (x ∷ xs) zero low = (x, refl)
there-is (x ∷ xs) (suc i) low = there-is xs i (omega (arith, low))

-- each place has an image
pub mapped-there : {X Y : Type 0} (f : X → Y) (xs : List X) (i : ℕ) → i < length xs → (y : Y) × (slice_get (map f xs) i ≡ Some y)
mapped-there f [] i low = absurd (omega (arith, low))
mapped-there f (x ∷ xs) zero low = (f x, refl)
mapped-there f (x ∷ xs) (suc i) low = mapped-there f xs i (omega (arith, low))

module _ {S : Type 0} (IsSame : S → S → Type 0) (old new : List S) where
  pub places-next : (count : ℕ) (ahead next : List (Option ℕ)) (place : Option ℕ) → ((j : ℕ) → (place ≡ Some j) ↔ AreSameAt IsSame old new count j) → next ≡ ahead ++ place ∷ []
      → ArePlaces IsSame old new count ahead → ArePlaces IsSame old new (count + 1) next
  places-next count ahead next place is pushed are = subst (ArePlaces IsSame old new (count + 1)) (sym pushed) (record {
    long = let all = length-append ahead (place ∷ []) in let long = are.long in omega (arith, all, long);
    exact = λ i j low. elim (cases_lt i count) [
      | inl before ↦ (
        λ at. (are.exact i j before).0 (earlier i j before at),
        λ same. get-append ahead (place ∷ []) i (Some j) ((are.exact i j before).1 same),
      )
      | inr last ↦
          let here : count ≡ i = omega (arith, low, last) in
          subst (λ k. (slice_get (ahead ++ place ∷ []) k ≡ Some (Some j)) ↔ AreSameAt IsSame old new k j) here (
            λ at. (is j).0 (same_Some place (Some j) (sym stands ∙ at)),
            λ same. stands ∙ ap Some ((is j).1 same),
          )
    ];
  })
    where
      earlier : (i j : ℕ) → i < count → slice_get (ahead ++ place ∷ []) i ≡ Some (Some j) → slice_get ahead i ≡ Some (Some j)
      earlier i j before at = elim (got-push ahead place i (Some j) at) [
        | inl has ↦ has
        | inr end ↦ let there = end.0 in let long = are.long in absurd (omega (arith, before, there, long))
      ]

      stands : slice_get (ahead ++ place ∷ []) count ≡ Some place
      stands = ap (slice_get (ahead ++ place ∷ [])) (sym are.long) ∙ get-last ahead place

  pub right-none : (places : List (Option ℕ)) → places ≡ [] → AreRight IsSame old new 0 places
  right-none places none = record { long = ap length none; right = λ i j at. absurd (none-some (Some j) (ap (λ l. slice_get l i) (sym none) ∙ at)) }

  pub right-next : (count : ℕ) (places next : List (Option ℕ)) (place : Option ℕ) → ((j : ℕ) → place ≡ Some j → AreSameAt IsSame old new count j) → next ≡ places ++ place ∷ []
      → AreRight IsSame old new count places → AreRight IsSame old new (count + 1) next
  right-next count places next place is pushed are = subst (AreRight IsSame old new (count + 1)) (sym pushed) (record {
    long = let all = length-append places (place ∷ []) in let long = are.long in omega (arith, all, long);
    right = λ i j at. elim (got-push places place i (Some j) at) [
      | inl has ↦ are.right i j has
      | inr end ↦ subst (λ k. AreSameAt IsSame old new k j) (sym (end.0 ∙ are.long)) (is j end.1)
    ];
  })

  -- what a test at two places tells
  tested-same : (i k : ℕ) (test : Bool) → i < length old → k < length new → ((s t : S) → slice_get old i ≡ Some s → slice_get new k ≡ Some t → IsTrue test ↔ IsSame s t)
      → test ≡ true → AreSameAt IsSame old new i k
  tested-same i k test low below tells passes =
      let (s, here) = there-is old i low in
      let (t, there) = there-is new k below in
      record { statement = s; other = t; here = here; there = there; same = (tells s t here there).0 passes }

  pub tested-right : (i k j : ℕ) (test : Bool) → i < length old → k < length new → ((s t : S) → slice_get old i ≡ Some s → slice_get new k ≡ Some t → IsTrue test ↔ IsSame s t)
      → then_some test k ≡ Some j → AreSameAt IsSame old new i j
  tested-right i k j true low below tells is = subst (AreSameAt IsSame old new i) (same_Some k j is) (tested-same i k true low below tells refl)
  tested-right i k j false low below tells is = absurd (none-some j is)

  -- of all places
  pub places-all : (count : ℕ) (ahead : List (Option ℕ)) → length old ≤ count → ArePlaces IsSame old new count ahead → (i j : ℕ) → (slice_get ahead i ≡ Some (Some j)) ↔ AreSameAt IsSame old new i j
  places-all count ahead all are i j = (
    λ at. let within = slice_get_within ahead i (Some j) at in let long = are.long in (are.exact i j (omega (arith, within, long))).0 at,
    λ same. let within = slice_get_within old i same.statement same.here in (are.exact i j (omega (arith, within, all))).1 same,
  )

  pub right-below : (count : ℕ) (places : List (Option ℕ)) → AreRight IsSame old new count places → (i j : ℕ) → slice_get places i ≡ Some (Some j) → j < length new
  right-below count places are i j at = let same = are.right i j at in slice_get_within new j same.other same.there

  pub places-below : (count : ℕ) (ahead : List (Option ℕ)) → length old ≤ count → ArePlaces IsSame old new count ahead → (i j : ℕ) → slice_get ahead i ≡ Some (Some j) → j < length new
  places-below count ahead all are i j at = let same = (places-all count ahead all are i j).0 at in slice_get_within new j same.other same.there

  pub matched-by : (count : ℕ) (ahead back : List (Option ℕ)) → length old ≤ count → ArePlaces IsSame old new count ahead
      → ((i j : ℕ) → (slice_get back j ≡ Some (Some i)) ↔ (slice_get ahead i ≡ Some (Some j))) → AreMatched IsSame old new (record { ahead = ahead; back = back })
  matched-by count ahead back all are inverse = record {
    ahead = places-all count ahead all are;
    back = λ i j. (
      λ at. (places-all count ahead all are i j).0 ((inverse i j).0 at),
      λ same. (inverse i j).1 ((places-all count ahead all are i j).1 same),
    );
  }

  -- where statements that are the same stand at one spot
  module _ (spot : S → Spot) (agree : (s t : S) → IsSame s t → spot s ≡ spot t) where
    -- the spots of a statement and of the same one
    pub spot-there : (i j : ℕ) (p : Spot) → slice_get (map spot old) i ≡ Some p → AreSameAt IsSame old new i j → slice_get (map spot new) j ≡ Some p
    spot-there i j p at same =
        let is = same_Some (spot same.statement) p (sym (to-mapped spot old i same.statement same.here) ∙ at) in
        to-mapped spot new j same.other same.there ∙ ap Some (sym (agree same.statement same.other same.same) ∙ is)

    -- and back
    pub spot-here : (i j : ℕ) (p : Spot) → slice_get (map spot new) j ≡ Some p → AreSameAt IsSame old new i j → slice_get (map spot old) i ≡ Some p
    spot-here i j p at same =
        let is = same_Some (spot same.other) p (sym (to-mapped spot new j same.other same.there) ∙ at) in
        to-mapped spot old i same.statement same.here ∙ ap Some (agree same.statement same.other same.same ∙ is)

    pub right-apart : (count : ℕ) (places : List (Option ℕ)) → AreApart (map spot old) → AreRight IsSame old new count places
        → (i k j : ℕ) → slice_get places i ≡ Some (Some j) → slice_get places k ≡ Some (Some j) → i ≡ k
    right-apart count places apart are i k j first second =
        let one = are.right i j first in
        let two = are.right k j second in
        let at = to-mapped spot new j one.other one.there in
        apart i k (spot one.other) (spot-here i j (spot one.other) at one) (spot-here k j (spot one.other) at two)

    -- one statement is the same as one at most
    pub places-apart : (count : ℕ) (ahead : List (Option ℕ)) → AreApart (map spot old) → length old ≤ count → ArePlaces IsSame old new count ahead
        → (i k j : ℕ) → slice_get ahead i ≡ Some (Some j) → slice_get ahead k ≡ Some (Some j) → i ≡ k
    places-apart count ahead apart all are i k j first second =
        let one = (places-all count ahead all are i j).0 first in
        let two = (places-all count ahead all are k j).0 second in
        let same = same_Some one.other two.other (sym one.there ∙ two.there) in
        let spots = agree one.statement one.other one.same ∙ ap spot same ∙ sym (agree two.statement two.other two.same) in
        apart i k (spot two.statement) (to-mapped spot old i one.statement one.here ∙ ap Some spots) (to-mapped spot old k two.statement two.here)

    -- where the spot stands nowhere there is none
    pub none-same : (i : ℕ) (p : Spot) → AreApart (map spot new) → slice_get (map spot old) i ≡ Some p → position (same_spot p) (map spot new) ≡ None
        → (j : ℕ) → (◌≡◌ {A = Option ℕ} None (Some j)) ↔ AreSameAt IsSame old new i j
    none-same i p apart at none j = (
      λ is. absurd (none-some j is),
      λ same. absurd (none-some j (sym none ∙ stands-found (map spot new) p j apart (spot-there i j p at same))),
    )

    -- and else the one at its place, if that is the same
    found-same : (i k : ℕ) (p : Spot) (test : Bool) → AreApart (map spot new) → slice_get (map spot old) i ≡ Some p → position (same_spot p) (map spot new) ≡ Some k
        → ((s t : S) → slice_get old i ≡ Some s → slice_get new k ≡ Some t → IsTrue test ↔ IsSame s t) → test ≡ true → (j : ℕ) → (Some k ≡ Some j) ↔ AreSameAt IsSame old new i j
    found-same i k p test apart at found tells passes j = (
      λ is. subst (AreSameAt IsSame old new i) (same_Some k j is) here,
      λ same. sym found ∙ stands-found (map spot new) p j apart (spot-there i j p at same),
    )
      where
        here : AreSameAt IsSame old new i k
        here =
            let (s, own, mine) = from-mapped spot old i p at in
            let (t, its, theirs) = from-mapped spot new k p (found-spot (map spot new) p k found) in
            record { statement = s; other = t; here = own; there = its; same = (tells s t own its).0 passes }

    found-other : (i k : ℕ) (p : Spot) (test : Bool) → AreApart (map spot new) → slice_get (map spot old) i ≡ Some p → position (same_spot p) (map spot new) ≡ Some k
        → ((s t : S) → slice_get old i ≡ Some s → slice_get new k ≡ Some t → IsTrue test ↔ IsSame s t) → test ≡ false → (j : ℕ) → (◌≡◌ {A = Option ℕ} None (Some j)) ↔ AreSameAt IsSame old new i j
    found-other i k p test apart at found tells fails j = (
      λ is. absurd (none-some j is),
      λ same.
          let place = same_Some k j (sym found ∙ stands-found (map spot new) p j apart (spot-there i j p at same)) in
          absurd (true≢false (sym ((tells same.statement same.other same.here (ap (slice_get new) place ∙ same.there)).1 same.same) ∙ fails)),
    )

    pub found-tested : (i k : ℕ) (p : Spot) (test : Bool) → AreApart (map spot new) → slice_get (map spot old) i ≡ Some p → position (same_spot p) (map spot new) ≡ Some k
        → ((s t : S) → slice_get old i ≡ Some s → slice_get new k ≡ Some t → IsTrue test ↔ IsSame s t) → (j : ℕ) → (then_some test k ≡ Some j) ↔ AreSameAt IsSame old new i j
    found-tested i k p true apart at found tells = found-same i k p true apart at found tells refl
    found-tested i k p false apart at found tells = found-other i k p false apart at found tells refl
