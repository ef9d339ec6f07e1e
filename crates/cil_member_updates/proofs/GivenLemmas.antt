-- How many set statements give a member, statement by statement.
use Rattle.cil_member_updates.proofs.Common.{◌≡◌, ◌+◌, ◌<◌, ◌≤◌, ◌&&◌, ℕ, zero, suc, Bool, false, cond, List, [], ◌∷◌, length, take, Some, IsTrue, bytes_eq, count_by, get_or, nat_lt, slice_get, sym, ap, ◌∙◌, arith, add-one, or_parts, has_set, AreInOrder, AreTheSame, Meaning, HasSoundSets, SetStatement, mentions, sum_below, sum-none, sum-more, one_if, gives_member, holds, gives, Tell}
use Rattle.std.proofs.Math.Seq.{take-length}
use Rattle.std.proofs.lemmas.List.Sums.{sum_by_more}
use Rattle.cil_member_updates.proofs.CountLemmas.{counted-member}
use Rattle.cil_member_updates.proofs.NameLemmas.{is-of-named, holds-named}

-- those that pass a test, one by one
pub count-sum : {X : Type 0} (test : X → Bool) (d : X) (xs : List X) → count_by test xs ≡ sum_below (λ i. one_if (test (get_or xs i d))) (length xs)
count-sum {X} test d xs = sym (ap (count_by test) (take-length xs)) ∙ first (length xs) (omega arith)
  where
    first : (n : ℕ) → n ≤ length xs → count_by test (take n xs) ≡ sum_below (λ i. one_if (test (get_or xs i d))) n
    first zero within = sym (sum-none (λ i. one_if (test (get_or xs i d))))
    first (suc n) within =
        let before = first n (omega (arith, within)) in
        ap (λ k. count_by test (take k xs)) (sym (add-one n)) ∙ sum_by_more (λ x. cond (test x) 1 0) xs n d within
        ∙ ap (λ c. c + one_if (test (get_or xs n d))) before ∙ sym (sum-more (λ i. one_if (test (get_or xs i d))) n) ∙ ap (sum_below (λ i. one_if (test (get_or xs i d)))) (add-one n)

-- nothing behind a set statement is of an attribute that it mentions, nor is itself
pub none-behind : (sets : List SetStatement) (d : SetStatement) → AreInOrder sets → (j k : ℕ) → j ≤ k → k < length sets → (a : List ℕ) → IsTrue (mentions a (get_or sets j d).expr) → bytes_eq a (get_or sets k d).attribute ≡ false
none-behind [] d order j k behind within a m = absurd (omega (arith, within))
none-behind (s ∷ sets) d order zero k behind within a m = at (s ∷ sets) k within (order.0 a m)
  where
    at : (xs : List SetStatement) (k : ℕ) → k < length xs → has_set xs a ≡ false → bytes_eq a (get_or xs k d).attribute ≡ false
    at [] k within none = absurd (omega (arith, within))
    at (x ∷ xs) zero within none = (or_parts (bytes_eq a x.attribute) (has_set xs a) none).0
    at (x ∷ xs) (suc k) within none = at xs k (omega (arith, within)) (or_parts (bytes_eq a x.attribute) (has_set xs a) none).1
none-behind (s ∷ sets) d order (suc j) zero behind within a m = absurd (omega (arith, behind))
none-behind (s ∷ sets) d order (suc j) (suc k) behind within a m = none-behind sets d order.1 j k (omega (arith, behind)) (omega (arith, within)) a m

module _ (symbols : List (List ℕ)) (meaning : Meaning) where
  pub gives-named : (a t : ℕ) (attribute name : List ℕ) → slice_get symbols a ≡ Some attribute → slice_get symbols t ≡ Some name → (s : SetStatement) → gives symbols meaning a t s ≡ gives_member meaning attribute name s
  gives-named a t attribute name at_a at_t s =
      ap (λ b. b && holds symbols meaning s t) (is-of-named symbols s a attribute at_a) ∙ ap (λ b. bytes_eq attribute s.attribute && b) (holds-named symbols meaning s t name at_t)

  -- counters of the set statements of a policy tell its members
  pub counts-tell : HasSoundSets meaning → (sets : List SetStatement) → AreTheSame meaning.sets sets → (s : SetStatement) (counts : ℕ → ℕ → ℕ)
      → ((a t : ℕ) (attribute name : List ℕ) → slice_get symbols a ≡ Some attribute → slice_get symbols t ≡ Some name → IsTrue (mentions attribute s.expr) → counts a t ≡ count_by (gives symbols meaning a t) sets) → Tell symbols meaning s counts
  counts-tell sound sets same s counts are a t attribute name at_a at_t mentioned =
      ap (nat_lt 0) (are a t attribute name at_a at_t mentioned ∙ ap (λ test. count_by test sets) (λ i x. gives-named a t attribute name at_a at_t x i))
      ∙ counted-member meaning sound sets same attribute name

  -- a set statement of another attribute gives nothing
  pub gives-other : (a t : ℕ) (attribute : List ℕ) → slice_get symbols a ≡ Some attribute → (s : SetStatement) → bytes_eq attribute s.attribute ≡ false → one_if (gives symbols meaning a t s) ≡ 0
  gives-other a t attribute at s other = ap (λ b. one_if (b && holds symbols meaning s t)) (is-of-named symbols s a attribute at ∙ other)

-- what is told by some counters is told by others that are the same where it is asked
pub tell-same : (symbols : List (List ℕ)) (meaning : Meaning) (s : SetStatement) (counts others : ℕ → ℕ → ℕ) → Tell symbols meaning s counts
    → ((a t : ℕ) (attribute : List ℕ) → slice_get symbols a ≡ Some attribute → IsTrue (mentions attribute s.expr) → others a t ≡ counts a t) → Tell symbols meaning s others
tell-same symbols meaning s counts others tell same a t attribute name at_a at_t mentioned = ap (nat_lt 0) (same a t attribute at_a mentioned) ∙ tell a t attribute name at_a at_t mentioned
