-- The members of a policy, counted from nothing.
use Rattle.cil_member_updates.proofs.Common.{◌≡◌, ◌<◌, ℕ, List, length, Some, slice_get, get_or, sym, ap, ◌∙◌, inl, arith, AreInOrder, AreTheSame, HasSoundSets, IsSameSet, meaning_in, sets_in, Resolved, no_set, set_at, Matched, AreMatched, sum_below, sum-none, sum-rest, within-none, within-weaker, RisesWithin, UpTo, Comes, Goes, MayGo, MayTurn, MayCount, MustCount, gives, given, given_by, Tell, AreCounts}
use Rattle.cil_member_updates.proofs.ComesLemmas.{comes-held}
use Rattle.cil_member_updates.proofs.GivenLemmas.{count-sum, counts-tell, gives-other, none-behind}
use Rattle.cil_member_updates.proofs.RenewLemmas.{places}
use Rattle.cil_member_updates.proofs.SideLemmas.{counts-sum}

-- counters of the first set statements tell the members of what the next one mentions
pub loaded-tell : {A : Type 0} (symbols : List (List ℕ)) (r : Resolved A) → HasSoundSets (meaning_in r) → AreTheSame (meaning_in r).sets (sets_in r) → AreInOrder (sets_in r) → (j : ℕ) → j < length (sets_in r)
    → (counts : ℕ → ℕ → ℕ) → ((a t : ℕ) → counts a t ≡ sum_below (given_by symbols r a t) j) → Tell symbols (meaning_in r) (set_at r j) counts
unfolding given
loaded-tell symbols r sound same order j within counts are =
    counts-tell symbols (meaning_in r) sound (sets_in r) same (set_at r j) counts
    (λ a t attribute name at_a at_t mentioned.
    are a t
    ∙ sum-rest (given_by symbols r a t) j (length (sets_in r)) (omega (arith, within))
    (λ k behind k_within. gives-other symbols (meaning_in r) a t attribute at_a (get_or (sets_in r) k no_set) (none-behind (sets_in r) no_set order j k behind k_within attribute mentioned))
    ∙ sym (count-sum (gives symbols (meaning_in r) a t) no_set (sets_in r)))

-- a policy without set statements counts nothing
pub nothing-counted : {A : Type 0} (symbols : List (List ℕ)) (old : Resolved A) → length (sets_in old) ≡ 0 → (counts : ℕ → ℕ → ℕ) → AreCounts symbols old counts → (a t : ℕ) → counts a t ≡ 0
nothing-counted symbols old none counts are a t = counts-sum symbols old counts are a t ∙ ap (sum_below (given_by symbols old a t)) none ∙ sum-none (given_by symbols old a t)

module _ {A B : Type 0} (symbols : List (List ℕ)) (old : Resolved A) (new : Resolved B) (m : Matched) (matched : AreMatched IsSameSet (sets_in old) (sets_in new) m) (none : length (sets_in old) ≡ 0) where
  -- nor has it one that another policy has too
  no-place : (i j : ℕ) → slice_get m.back j ≡ Some (Some i) → ⊥
  no-place i j at = let within = ((places (sets_in old) (sets_in new) no_set m matched).from i j at).0 in omega (arith, within, none)

  -- so none goes, and all come
  pub none-goes : (count : ℕ) → RisesWithin (UpTo (MayGo symbols old m) (length (sets_in old))) (UpTo (Goes symbols old m) (length (sets_in old))) count count
  none-goes count =
      within-none (UpTo (MayGo symbols old m) (length (sets_in old))) (UpTo (Goes symbols old m) (length (sets_in old))) count (λ p must. let low = must.0 in omega (arith, low, none))

  pub all-come : (n before after : ℕ) → RisesWithin (UpTo (MayCount symbols new) n) (UpTo (MustCount symbols new) n) before after → RisesWithin (UpTo (MayTurn symbols old new m) n) (UpTo (Comes symbols old new m) n) before after
  all-come n before after =
      within-weaker (UpTo (MayCount symbols new) n) (UpTo (MustCount symbols new) n) (UpTo (MayTurn symbols old new m) n) (UpTo (Comes symbols old new m) n) before after
      (λ p may. (may.0, inl (λ i at. no-place i p.0 at, may.1))) (λ p must. (must.0, comes-held symbols old new m p.0 p.1 must.1))
