-- Permissions of a class, cut out of those of a rule.
use Rattle.cil_violations.proofs.Common.{◌≡◌, ◌∙◌, inl, inr, ℕ, zero, suc, ◌+◌, ◌-◌, ◌<◌, ◌≤◌, ◌==◌, Bool, true, false, cond, List, [], ◌∷◌, length, get_or, take, drop, refl, sym, ap, arith, eq-eqb, ne_eqb, ltb-true, cases_lt, filter, ClassPermission, AreInOrder, permission_cmp, of_class}
use Rattle.std.specs.List.Sorted.{IsNonDecreasingBy, IsPartitionPoint}
use Rattle.std.proofs.Math.Dec.{leb, ltb}
use Rattle.std.proofs.lemmas.Bool.{leb-false, leb-true, ltb-false}
use Rattle.std.proofs.lemmas.List.Kept.{IsStrictlySortedBy-filter}
use Rattle.std.proofs.lemmas.Map.Keys.{Less-from_sorted}
use Rattle.cil_violations.proofs.IndexLemmas.{less-class}

take-nothing : {X : Type 0} (n : ℕ) → ◌≡◌ {A = List X} (take n []) []
take-nothing zero = refl
take-nothing (suc n) = refl

-- A test holds at a part of a list: the filter by it is that part.
pub filter-part : {X : Type 0} (p : X → Bool) (xs : List X) (start len : ℕ)
    → ((k : ℕ) (d : X) → k < length xs → k < start → p (get_or xs k d) ≡ false)
    → ((k : ℕ) (d : X) → k < length xs → start ≤ k → k < start + len → p (get_or xs k d) ≡ true)
    → ((k : ℕ) (d : X) → k < length xs → start + len ≤ k → p (get_or xs k d) ≡ false)
    → take len (drop start xs) ≡ filter p xs
filter-part p [] zero len before within after = take-nothing len
filter-part p [] (suc start) len before within after = take-nothing len
filter-part p (x ∷ xs) zero zero before within after =
    filter-part p xs zero zero (λ k d low none. absurd (omega (arith, none))) (λ k d low on none. absurd (omega (arith, none)))
    (λ k d low on. after (suc k) d (omega (arith, low)) (omega arith))
    ∙ sym (ap (λ b. cond b (x ∷ filter p xs) (filter p xs)) (after 0 x (omega arith) (omega arith)))
filter-part p (x ∷ xs) zero (suc len) before within after =
    ap (λ l. x ∷ l) (filter-part p xs zero len (λ k d low none. absurd (omega (arith, none)))
    (λ k d low on below. within (suc k) d (omega (arith, low)) (omega arith) (omega (arith, below)))
    (λ k d low on. after (suc k) d (omega (arith, low)) (omega (arith, on))))
    ∙ sym (ap (λ b. cond b (x ∷ filter p xs) (filter p xs)) (within 0 x (omega arith) (omega arith) (omega arith)))
filter-part p (x ∷ xs) (suc start) len before within after =
    filter-part p xs start len (λ k d low below. before (suc k) d (omega (arith, low)) (omega (arith, below)))
    (λ k d low on below. within (suc k) d (omega (arith, low)) (omega (arith, on)) (omega (arith, below)))
    (λ k d low on. after (suc k) d (omega (arith, low)) (omega (arith, on)))
    ∙ sym (ap (λ b. cond b (x ∷ filter p xs) (filter p xs)) (before 0 x (omega arith) (omega arith)))

-- the classes of permissions in order don't fall
pub classes-rise : (xs : List ClassPermission) → AreInOrder xs → IsNonDecreasingBy (λ g. g.class) xs
classes-rise xs rising i j d below within = elim (cases_lt i j) [
  | inl low ↦ less-class (get_or xs i d) (get_or xs j d) (Less-from_sorted permission_cmp xs i j d rising low within)
  | inr high ↦ let same : i ≡ j = omega (arith, below, high) in let classes = ap (λ k. (get_or xs k d).class) same in omega (arith, classes)
]

-- where the permissions of classes below one end, and those up to it
abbrev pub IsStart : List ClassPermission → ℕ → ℕ → Type 0
IsStart xs c n = IsPartitionPoint (λ (g : ClassPermission). ltb g.class c ≡ true) (λ (g : ClassPermission). ltb g.class c ≡ false) xs n

abbrev pub IsEnd : List ClassPermission → ℕ → ℕ → Type 0
IsEnd xs c n = IsPartitionPoint (λ (g : ClassPermission). leb g.class c ≡ true) (λ (g : ClassPermission). leb g.class c ≡ false) xs n

module _ (xs : List ClassPermission) (c start end : ℕ) (first : IsStart xs c start) (last : IsEnd xs c end) where
  -- the first ends before the second
  pub part-ordered : start ≤ length xs → start ≤ end
  part-ordered within = elim (cases_lt end start) [
    | inl high ↦
        let none : ClassPermission = record { class = 0; permission = 0 } in
        let low = ltb-true (get_or xs end none).class c (first.0 end none (omega arith) high) in
        let above = leb-false (get_or xs end none).class c (last.1 end none (omega arith) (omega (arith, high, within))) in
        absurd (omega (arith, low, above))
    | inr low ↦ low
  ]

  -- between them are those of the class
  pub part-of-class : start ≤ end → take (end - start) (drop start xs) ≡ of_class c xs
  part-of-class ordered =
      filter-part (λ g. g.class == c) xs start (end - start)
      (λ k d low below. ne_eqb (get_or xs k d).class c (λ same. (let less = ltb-true (get_or xs k d).class c (first.0 k d (omega arith) below) in omega (arith, less, same))))
      (λ k d low on below.
      let above = ltb-false (get_or xs k d).class c (first.1 k d on low) in
      let up = leb-true (get_or xs k d).class c (last.0 k d (omega arith) (omega (arith, below, ordered))) in
      eq-eqb (get_or xs k d).class c (omega (arith, above, up)))
      (λ k d low on. ne_eqb (get_or xs k d).class c (λ same. (let above = leb-false (get_or xs k d).class c (last.1 k d (omega (arith, on, ordered)) low) in omega (arith, above, same))))

-- those of a class are in order as they are
pub class-rises : (c : ℕ) (xs : List ClassPermission) → AreInOrder xs → AreInOrder (of_class c xs)
class-rises c xs rising = IsStrictlySortedBy-filter permission_cmp (λ g. g.class == c) xs rising
