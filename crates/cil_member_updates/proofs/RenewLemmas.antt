-- What set statements gave that stayed, and what the new ones give.
use Rattle.cil_member_updates.proofs.Common.{◌≡◌, ◌+◌, ◌<◌, ℕ, false, List, length, Option, None, Some, IsTrue, bytes_eq, count_by, get_or, slice_get, refl, sym, ap, ◌∙◌, subst, arith, slice_get_within, get_or_from_slice_get, AreInOrder, Meaning, SetStatement, IsSameSet, mentions, sum_below, across, ArePlaces, across-some, across-none, Matched, AreMatched, AreSameAt, one_if, gives}
use Rattle.cil_member_updates.proofs.GivenLemmas.{none-behind, gives-other, count-sum}
use Rattle.cil_member_updates.proofs.PassLemmas.{settled}

pub same-attribute : (s t : SetStatement) → IsSameSet s t → s.attribute ≡ t.attribute
same-attribute s t same = ap (λ c. c.attribute) same.2

pub same-expr : (s t : SetStatement) → IsSameSet s t → s.expr ≡ t.expr
same-expr s t same = ap (λ c. c.expr) same.2

module _ (xs ys : List SetStatement) (d : SetStatement) where
  pub same-at : (i j : ℕ) → AreSameAt IsSameSet xs ys i j → (i < length xs) × (j < length ys) × IsSameSet (get_or xs i d) (get_or ys j d)
  same-at i j at = (
    slice_get_within xs i at.statement at.here,
    slice_get_within ys j at.other at.there,
    subst (λ s. IsSameSet s (get_or ys j d)) (sym (get_or_from_slice_get xs i at.statement d at.here)) (subst (IsSameSet at.statement) (sym (get_or_from_slice_get ys j at.other d at.there)) at.same),
  )

  module _ (matching : Matched) (matched : AreMatched IsSameSet xs ys matching) where
    pub places : ArePlaces (length xs) (length ys) matching.ahead matching.back
    places = record {
      to = λ i j at. (let same = (matched.ahead i j).0 at in ((same-at i j same).1, (matched.back i j).1 same));
      from = λ i j at. (let same = (matched.back i j).0 at in ((same-at i j same).0, (matched.ahead i j).1 same));
    }

    module _ (symbols : List (List ℕ)) (old : Meaning) (a t : ℕ) (attribute : List ℕ) (at : slice_get symbols a ≡ Some attribute) where
      -- one of another attribute gave nothing
      pub stayed-other : (k : ℕ) → bytes_eq attribute (get_or ys k d).attribute ≡ false → across (λ i. one_if (gives symbols old a t (get_or xs i d))) matching.back k ≡ 0
      stayed-other k other = by (slice_get matching.back k) refl
        where
          gave : ℕ → ℕ
          gave i = one_if (gives symbols old a t (get_or xs i d))

          by : (place : Option (Option ℕ)) → slice_get matching.back k ≡ place → across gave matching.back k ≡ 0
          by None is = across-none gave matching.back k (λ i e. none i (sym is ∙ e))
            where
              none : (i : ℕ) → None ≡ Some (Some i) → ⊥
              none i e = cc
          by (Some None) is = across-none gave matching.back k (λ i e. none i (sym is ∙ e))
            where
              none : (i : ℕ) → Some None ≡ Some (Some i) → ⊥
              none i e = cc
          by (Some (Some i)) is =
              let same = (same-at i k ((matched.back i k).0 is)).2 in
              across-some gave matching.back i k is
              ∙ gives-other symbols old a t attribute at (get_or xs i d) (ap (bytes_eq attribute) (same-attribute (get_or xs i d) (get_or ys k d) same) ∙ other)

      -- what a set statement mentions is counted as in the new policy when its turn comes
      pub settled-at : AreInOrder ys → (new : Meaning) (j : ℕ) → j < length ys → IsTrue (mentions attribute (get_or ys j d).expr) → (count : ℕ)
          → count + sum_below (across (λ i. one_if (gives symbols old a t (get_or xs i d))) matching.back) j
          ≡ sum_below (λ i. one_if (gives symbols new a t (get_or ys i d))) j + sum_below (across (λ i. one_if (gives symbols old a t (get_or xs i d))) matching.back) (length ys)
          → count ≡ count_by (gives symbols new a t) ys
      settled-at order new j within mentioned count e =
          settled (across (λ i. one_if (gives symbols old a t (get_or xs i d))) matching.back) (λ i. one_if (gives symbols new a t (get_or ys i d))) (length ys) count j (omega (arith, within)) e
          (λ k behind k_within. stayed-other k (none-behind ys d order j k behind k_within attribute mentioned))
          (λ k behind k_within. gives-other symbols new a t attribute at (get_or ys k d) (none-behind ys d order j k behind k_within attribute mentioned))
          ∙ sym (count-sum (gives symbols new a t) d ys)
