-- Set statements are evaluated at dirty pairs alone, twice at most, and for each member gained at least once.
use Rattle.cil_member_updates.proofs.Common.{◌≡◌, ◌≢◌, ◌⊎◌, ◌<◌, ◌≤◌, ◌&&◌, ℕ, Bool, true, false, List, [], ◌++◌, get_or, length, map, nat_lt, slice_get, bytes_eq, count_by, Option, None, Some, IsTrue, refl, sym, ap, ◌∙◌, subst, inl, inr, arith, All, AllPairs, Contains, IsDistinct, cases_eq, cases_lt, lt-ltb, length-append, length-map, All-append, All-contains, All-map, Contains-get_or, get_or_from_slice_get, none-some, same_Some, slice_get-get_or, slice_get_read, bytes_eq-Decides, AreMatched, Matched, AreNumbersOf, meaning_in, sets_in, Resolved, one_if, no_set, set_at, AreTheSame, has_name, keeps_type, Meaning, is_member, keeps_attribute, HasSoundSets, IsSameSet, SetStatement, sum_below, across-none, across-some, sum-differs, sum-part, sum-zero, IsKept, MayGo, MayTurn, gives, holds, is_of, given_by, stayed, given, RisesWithin, UpTo, Goes, Comes}
use Rattle.std.proofs.Common.{true≢false}
use Rattle.cil_delta_specs.specs.Dirty.{AreGained, HasSet, IsDirtyPair}
use Rattle.cil_delta_specs.specs.Work.{raised, EvaluatesFew}
use Rattle.cil_resolve.specs.Apart.{StandApart}
use Rattle.cil_member_updates.proofs.CountLemmas.{counted-member}
use Rattle.cil_member_updates.proofs.PlaceLemmas.{member-kept}
use Rattle.cil_sums.proofs.PairLemmas.{at-most-all, from-mapped, mapped, pairs-append, pairs-map}
use Rattle.cil_member_updates.proofs.EvaluatedLemmas.{first-true, second-true}
use Rattle.cil_member_updates.proofs.GivenLemmas.{count-sum, gives-named}
use Rattle.cil_member_updates.proofs.NameLemmas.{is-of-named, keeps-name, same-symbol}
use Rattle.cil_member_updates.proofs.RenewLemmas.{places}
use Rattle.cil_member_updates.proofs.SymbolLemmas.{symbol-of}

-- statements of a policy that stand apart are the same at one place alone
one-place : (sets : List SetStatement) → AllPairs StandApart sets → (i k : ℕ) → i < length sets → k < length sets → IsSameSet (get_or sets i no_set) (get_or sets k no_set) → i ≡ k
one-place sets apart i k i_in k_in same =
    elim (cases_eq i k) [
      | inl equal ↦ equal
      | inr other ↦ elim (cases_lt i k) [
        | inl below ↦ absurd (apart i k no_set below k_in same.0 same.1)
        | inr above ↦ absurd (apart k i no_set (omega (arith, above, other)) i_in (sym same.0) (sym same.1))
      ]
    ]

-- one of a number's others, or none
placed : (m : List (Option ℕ)) (j : ℕ) → ((i : ℕ) × (slice_get m j ≡ Some (Some i))) ⊎ ((i : ℕ) → slice_get m j ≡ Some (Some i) → ⊥)
placed m j = by (slice_get m j) refl
  where
    by : (o : Option (Option ℕ)) → slice_get m j ≡ o → ((i : ℕ) × (slice_get m j ≡ Some (Some i))) ⊎ ((i : ℕ) → slice_get m j ≡ Some (Some i) → ⊥)
    by None is = inr (λ i e. none-some (Some i) (sym is ∙ e))
    by (Some None) is = inr (λ i e. none-some i (same_Some None (Some i) (sym is ∙ e)))
    by (Some (Some i)) is = inl (i, is)

turned-same : (s t : SetStatement) → IsSameSet s t → IsSameSet t s
turned-same s t same = (sym same.0, sym same.1, sym same.2)

module _ {A B : Type 0} (symbols : List (List ℕ)) (distinct : IsDistinct bytes_eq symbols) (old : Resolved A) (new : Resolved B) (old_same : AreTheSame (meaning_in old).sets (sets_in old)) (new_same : AreTheSame (meaning_in new).sets (sets_in new))
    (old_apart : AllPairs StandApart (sets_in old)) (new_apart : AllPairs StandApart (sets_in new)) (m : Matched) (matched : AreMatched IsSameSet (sets_in old) (sets_in new) m) where
  abbrev was : Meaning
  was = meaning_in old

  abbrev now : Meaning
  now = meaning_in new

  abbrev name : ℕ → List ℕ
  name t = get_or symbols t []

  abbrev old_pair : ℕ × ℕ → SetStatement × List ℕ
  old_pair p = (set_at old p.0, name p.1)

  abbrev new_pair : ℕ × ℕ → SetStatement × List ℕ
  new_pair p = (set_at new p.0, name p.1)

  -- ---- statements

  old-has : (i : ℕ) → i < length (sets_in old) → HasSet was (set_at old i)
  old-has i within = (set_at old i, (old_same (set_at old i)).1 (Contains-get_or (sets_in old) i no_set within), (refl, refl, refl))

  new-has : (j : ℕ) → j < length (sets_in new) → HasSet now (set_at new j)
  new-has j within = (set_at new j, (new_same (set_at new j)).1 (Contains-get_or (sets_in new) j no_set within), (refl, refl, refl))

  has-place : (sets : List SetStatement) (s : SetStatement) (has : Contains sets s) → slice_get sets has.0 ≡ Some s
  has-place sets s has = slice_get_read sets (length sets) has.0 s refl has.1 (sym has.2)

  unmatched-old : (i : ℕ) → i < length (sets_in old) → ((j : ℕ) → slice_get m.ahead i ≡ Some (Some j) → ⊥) → HasSet now (set_at old i) → ⊥
  unmatched-old i within none has =
      let there = (new_same has.0).0 has.1 in
      none there.0 ((matched.ahead i there.0).1 (record { statement = set_at old i; other = has.0; here = slice_get-get_or (sets_in old) i no_set within; there = has-place (sets_in new) has.0 there; same = has.2 }))

  unmatched-new : (j : ℕ) → j < length (sets_in new) → ((i : ℕ) → slice_get m.back j ≡ Some (Some i) → ⊥) → HasSet was (set_at new j) → ⊥
  unmatched-new j within none has =
      let there = (old_same has.0).0 has.1 in
      none there.0 ((matched.back there.0 j).1
      (record { statement = has.0; other = set_at new j; here = has-place (sets_in old) has.0 there; there = slice_get-get_or (sets_in new) j no_set within; same = turned-same (set_at new j) has.0 has.2 }))

  -- ---- where they are evaluated is a dirty pair

  kept-name : (meaning : Meaning) (t : ℕ) → IsKept symbols meaning t → (slice_get symbols t ≡ Some (name t)) × (keeps_type meaning (name t) ≡ true)
  kept-name meaning t kept =
      let (n, at, keeps) = keeps-name symbols meaning t kept in
      let same : name t ≡ n = get_or_from_slice_get symbols t n [] at in
      (at ∙ ap Some (sym same), ap (keeps_type meaning) same ∙ keeps)

  gone-dirty : (i t : ℕ) → i < length (sets_in old) → MayGo symbols old m i t → IsDirtyPair was now (set_at old i) (name t)
  gone-dirty i t within may = record {
    statement = inl (old-has i within);
    a_type = first-true (keeps_type was (name t)) (keeps_type now (name t)) (kept-name was t may.1).1;
    why = inl (inl (old-has i within, unmatched-old i within may.0));
  }

  turned-dirty : (j t : ℕ) → j < length (sets_in new) → MayTurn symbols old new m j t → IsDirtyPair was now (set_at new j) (name t)
  turned-dirty j t within (inl may) = record {
    statement = inr (new-has j within);
    a_type = second-true (keeps_type was (name t)) (keeps_type now (name t)) (kept-name now t may.1).1;
    why = inl (inr (new-has j within, unmatched-new j within may.0));
  }
  turned-dirty j t within (inr may) = subst (IsDirtyPair was now (set_at new j)) (sym (get_or_from_slice_get symbols t may.2.name [] may.2.here)) (record {
    statement = inr (new-has j within);
    a_type = may.2.kept;
    why = inr may.2.why;
  })

  turned-named : (j t : ℕ) → MayTurn symbols old new m j t → slice_get symbols t ≡ Some (name t)
  turned-named j t (inl may) = (kept-name now t may.1).0
  turned-named j t (inr may) = may.2.here ∙ ap Some (sym (get_or_from_slice_get symbols t may.2.name [] may.2.here))

  -- ---- each pair once

  abbrev Apart : SetStatement × List ℕ → SetStatement × List ℕ → Type 0
  Apart p q = ¬ (IsSameSet p.0 q.0 × (p.1 ≡ q.1))

  one-symbol : (t u : ℕ) → slice_get symbols t ≡ Some (name t) → slice_get symbols u ≡ Some (name u) → name t ≡ name u → t ≡ u
  one-symbol t u here there same = same-symbol symbols distinct t u (name u) (here ∙ ap Some same) there

  one-pair : (p q : ℕ × ℕ) → p.0 ≡ q.0 → p.1 ≡ q.1 → p ≡ q
  one-pair p q first second n = (first n, second n)

  module _ (before between after : ℕ)
      (first : RisesWithin (UpTo (MayGo symbols old m) (length (sets_in old))) (UpTo (Goes symbols old m) (length (sets_in old))) before between)
      (second : RisesWithin (UpTo (MayTurn symbols old new m) (length (sets_in new))) (UpTo (Comes symbols old new m) (length (sets_in new))) between after) where
    abbrev pairs : List (SetStatement × List ℕ)
    pairs = map old_pair first.those ++ map new_pair second.those

    each : All (λ p. IsDirtyPair was now p.0 p.1) pairs
    each =
        All-append (λ p. IsDirtyPair was now p.0 p.1) (map old_pair first.those) (map new_pair second.those)
        (All-map (λ p. IsDirtyPair was now p.0 p.1) old_pair first.those (λ k d inside. let p = get_or first.those k d in let is = first.each p (Contains-get_or first.those k d inside) in gone-dirty p.0 p.1 is.0 is.1))
        (All-map (λ p. IsDirtyPair was now p.0 p.1) new_pair second.those (λ k d inside. let p = get_or second.those k d in let is = second.each p (Contains-get_or second.those k d inside) in turned-dirty p.0 p.1 is.0 is.1))

    once : AllPairs Apart pairs
    once =
        pairs-append Apart (map old_pair first.those) (map new_pair second.those)
        (pairs-map old_pair Apart first.those first.once (λ p q p_has q_has apart both.
        let p_is = first.each p p_has in
        let q_is = first.each q q_has in
        apart (one-pair p q (one-place (sets_in old) old_apart p.0 q.0 p_is.0 q_is.0 both.0) (one-symbol p.1 q.1 (kept-name was p.1 p_is.1.1).0 (kept-name was q.1 q_is.1.1).0 both.1))))
        (pairs-map new_pair Apart second.those second.once (λ p q p_has q_has apart both.
        let p_is = second.each p p_has in
        let q_is = second.each q q_has in
        apart (one-pair p q (one-place (sets_in new) new_apart p.0 q.0 p_is.0 q_is.0 both.0) (one-symbol p.1 q.1 (turned-named p.0 p.1 p_is.1) (turned-named q.0 q.1 q_is.1) both.1))))
        (λ x y x_has y_has both.
        let p = from-mapped old_pair first.those x x_has in
        let q = from-mapped new_pair second.those y y_has in
        let p_is = first.each p.0 p.1 in
        let q_is = second.each q.0 q.1 in
        let same : IsSameSet (set_at old p.0.0) (set_at new q.0.0) = subst (λ z. IsSameSet z.0 (set_at new q.0.0)) (sym p.2) (subst (λ z. IsSameSet x.0 z.0) (sym q.2) both.0) in
        unmatched-old p.0.0 p_is.0 p_is.1.0 (set_at new q.0.0, (new_same (set_at new q.0.0)).1 (Contains-get_or (sets_in new) q.0.0 no_set q_is.0), same))

    -- ---- each member gained is one that a set statement gives anew

    module _ (old_sound : HasSoundSets was) (new_sound : HasSoundSets now) (numbers : List ℕ) (are : AreNumbersOf symbols numbers new.names.items)
        (types : (n : List ℕ) → IsTrue (keeps_type now n) → IsTrue (has_name new.names.items n)) (attributes : (n : List ℕ) → IsTrue (keeps_attribute now n) → IsTrue (has_name new.names.items n)) where
      abbrev gained_pair : ℕ × ℕ → List ℕ × List ℕ
      gained_pair p = ((set_at new p.0).attribute, name p.1)

      -- the sum of what set statements give is above 0 where there is a member
      given-some : {C : Type 0} (r : Resolved C) → HasSoundSets (meaning_in r) → AreTheSame (meaning_in r).sets (sets_in r) → (a t : ℕ) (attribute n : List ℕ) → slice_get symbols a ≡ Some attribute → slice_get symbols t ≡ Some n
          → nat_lt 0 (sum_below (given_by symbols r a t) (length (sets_in r))) ≡ is_member (meaning_in r) attribute n
      unfolding given
      given-some r sound same a t attribute n at_a at_t =
          ap (nat_lt 0) (sym (count-sum (gives symbols (meaning_in r) a t) no_set (sets_in r)))
          ∙ ap (λ test. nat_lt 0 (count_by test (sets_in r))) (λ i s. gives-named symbols (meaning_in r) a t attribute n at_a at_t s i)
          ∙ counted-member (meaning_in r) sound (sets_in r) same attribute n

      -- what is given is of the attribute
      given-of : (j a t : ℕ) (attribute : List ℕ) → slice_get symbols a ≡ Some attribute → given symbols new j a t ≢ 0 → attribute ≡ (set_at new j).attribute
      unfolding given
      given-of j a t attribute at some = by (is_of symbols (set_at new j) a) refl
        where
          by : (b : Bool) → is_of symbols (set_at new j) a ≡ b → attribute ≡ (set_at new j).attribute
          by true is = (bytes_eq-Decides attribute (set_at new j).attribute).0 (sym (is-of-named symbols (set_at new j) a attribute at) ∙ is)
          by false is = absurd (some (ap (λ b. one_if (b && holds symbols now (set_at new j) t)) is))

      gained-there : (attribute n : List ℕ) → is_member was attribute n ≡ false → is_member now attribute n ≡ true → Contains (map gained_pair second.those) (attribute, n)
      gained-there attribute n before_it now_it = at (symbol-of symbols numbers new.names.items are attribute (attributes attribute kept.1)) (symbol-of symbols numbers new.names.items are n (types n kept.0))
        where
          kept : (keeps_type now n ≡ true) × (keeps_attribute now attribute ≡ true)
          kept = member-kept now new_sound attribute n now_it

          at : (a : ℕ) × (slice_get symbols a ≡ Some attribute) → (t : ℕ) × (slice_get symbols t ≡ Some n) → Contains (map gained_pair second.those) (attribute, n)
          at a t =
              let found = sum-differs gives_new (λ j. 0) (length (sets_in new)) (λ none. true≢false (sym (some-now) ∙ ap (nat_lt 0) (none ∙ sum-zero (λ j. 0) (length (sets_in new)) (λ j low. refl)))) in
              let j = found.0 in
              let none = not-stayed j in
              let positive = found.2 in
              let there = second.all (j, t.0) (found.1, (a.0, omega (arith, none, positive))) in
              subst (Contains (map gained_pair second.those)) (both j found.2) (mapped gained_pair second.those (j, t.0) there)
            where
              gives_new : ℕ → ℕ
              gives_new = given_by symbols new a.0 t.0

              gave_old : ℕ → ℕ
              gave_old = given_by symbols old a.0 t.0

              some-now : nat_lt 0 (sum_below gives_new (length (sets_in new))) ≡ true
              some-now = given-some new new_sound new_same a.0 t.0 attribute n a.1 t.1 ∙ now_it

              none-before : sum_below gave_old (length (sets_in old)) ≡ 0
              none-before = zero-of (sum_below gave_old (length (sets_in old))) (given-some old old_sound old_same a.0 t.0 attribute n a.1 t.1 ∙ before_it)
                where
                  zero-of : (k : ℕ) → nat_lt 0 k ≡ false → k ≡ 0
                  zero-of k none = elim (cases_eq k 0) [
                    | inl is ↦ is
                    | inr other ↦ absurd (true≢false (sym (lt-ltb-pos k other) ∙ none))
                  ]
                    where
                      lt-ltb-pos : (k : ℕ) → k ≢ 0 → nat_lt 0 k ≡ true
                      lt-ltb-pos k other = lt-ltb 0 k (omega (arith, other))

              not-stayed : (j : ℕ) → stayed symbols old m a.0 t.0 j ≡ 0
              not-stayed j = elim (placed m.back j) [
                | inl at ↦
                    let within = ((places (sets_in old) (sets_in new) no_set m matched).from at.0 j at.1).0 in
                    let part = sum-part gave_old at.0 (length (sets_in old)) within in
                    let across_it = across-some gave_old m.back at.0 j at.1 in
                    omega (arith, part, across_it, none-before)
                | inr unmatched ↦ across-none gave_old m.back j unmatched
              ]

              both : (j : ℕ) → gives_new j ≢ 0 → gained_pair (j, t.0) ≡ (attribute, n)
              both j some =
                  let first_is = given-of j a.0 t.0 attribute a.1 some in
                  let second_is = get_or_from_slice_get symbols t.0 n [] t.1 in
                  λ k. (sym first_is k, second_is k)

      gained-few : (gained : List (List ℕ × List ℕ)) → AreGained was now gained → raised before (length gained) ≤ after
      gained-few gained is =
          let few = at-most-all gained (map gained_pair second.those) is.once
          (λ p has. let at = All-contains (λ q. (is_member was q.0 q.1 ≡ false) × IsTrue (is_member now q.0 q.1)) gained p is.each has in gained-there p.0 p.1 at.0 at.1) in
          omega (arith, few, length-map second.those gained_pair, first.at_least, second.at_least)

      pub evaluates-few : EvaluatesFew was now before after
      evaluates-few = record {
        pairs = pairs;
        dirty = record { each = each; once = once };
        at_most = omega (
          arith,
          length-append (map old_pair first.those) (map new_pair second.those),
          length-map first.those old_pair,
          length-map second.those new_pair,
          first.at_most,
          second.at_most,
        );
        at_least = gained-few;
      }
