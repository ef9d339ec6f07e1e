-- Lists of names whose symbols are in words.
use Rattle.cil_violations.proofs.Common.{◌≡◌, ◌≢◌, ◌⊎◌, ◌↔◌, ◌∙◌, ℕ, ◌+◌, ◌*◌, ◌/◌, ◌%◌, ◌<◌, ◌==◌, Bool, true, List, length, slice_index, Contains, Some, slice_get, refl, sym, ap, inl, inr, arith, true≢false, nat_cmp, cases_lt, nat_cmp_total, get_or_from_slice_get, slice_get-get_or, slice_get_within, AnyByRecursion, contains_from, contains_to, IsOrdered, hits, NoneFromWord, IsFirstWordFrom, IsWordOf}
use Rattle.std.specs.Int.{bit_at}
use Rattle.std.proofs.Common.{eqb-true}
use Rattle.cil_specs.proofs.ViolationLemmas.{one-sorted}
use Rattle.cil_violations.specs.Shared.{HasBit}
use Rattle.cil_violations.proofs.FoundLemmas.{hit-from, hit-to}
use Rattle.cil_violations.proofs.OrderLemmas.{hits-ascend}

module _ (symbols : List ℕ) (index word : ℕ) where
  -- the lists of names with the first bits
  abbrev pub AreAdded : List ℕ → ℕ → List ℕ → Type 0
  AreAdded old bits new = (n : ℕ) → Contains new n ↔ (Contains old n ⊎ HasBit symbols index word bits n)

  pub added-set : (old mid new : List ℕ) (bit : ℕ) → bit_at word bit ≡ 1 → AreAdded old bit mid
      → ((n : ℕ) → Contains new n ↔ (Contains mid n ⊎ (slice_get symbols n ≡ Some (index * 64 + bit))))
      → AreAdded old (bit + 1) new
  added-set old mid new bit one so_far more n = grind (arith, so_far n, more n, one)

  pub added-clear : (old mid : List ℕ) (bit : ℕ) → bit_at word bit ≢ 1 → AreAdded old bit mid
      → AreAdded old (bit + 1) mid
  added-clear old mid bit other so_far n = grind (arith, so_far n, other)

  pub added-none : (old : List ℕ) → AreAdded old 0 old
  added-none old n = search (arith)

module _ (symbols : List ℕ) (test : ℕ → Bool) where
  -- the symbol of a name passes a test, and stands in a word before one
  abbrev pub IsFoundBefore : ℕ → ℕ → Type 0
  IsFoundBefore from n = (t : ℕ) × (t / 64 < from) × (test t ≡ true) × (slice_get symbols n ≡ Some t)

  abbrev pub AreFoundBefore : ℕ → List ℕ → Type 0
  AreFoundBefore from list = (n : ℕ) → Contains list n ↔ IsFoundBefore from n

  module _ (from index word : ℕ) (first : IsFirstWordFrom test from index) (is : IsWordOf test index word) where
    found-here : (n : ℕ) → HasBit symbols index word 64 n → IsFoundBefore (index + 1) n
    found-here n has =
        let small = has.1 in
        (64 * index + has.0, omega (arith, small), sym (is has.0 small) ∙ ap (λ x. x == 1) has.2, has.3)

    found-there : (n : ℕ) → IsFoundBefore (index + 1) n → IsFoundBefore from n ⊎ HasBit symbols index word 64 n
    found-there n found =
        let t = found.0 in
        let low = found.1 in
        elim (cases_lt (t / 64) from) [
          | inl before ↦ inl (t, before, found.2, found.3)
          | inr on ↦ elim (cases_lt (t / 64) index) [
            | inl skipped ↦ absurd (true≢false (sym found.2 ∙ first.before t on skipped))
            | inr here ↦
                let spot : 64 * index + t % 64 ≡ t = omega (arith, low, here) in
                let small : t % 64 < 64 = omega arith in
                inr (
                  t % 64,
                  small,
                  eqb-true (bit_at word (t % 64)) 1
                      (is (t % 64) small ∙ ap test spot ∙ found.2),
                  found.3 ∙ ap Some (sym spot),
                )
          ]
        ]

    -- one more word
    pub found-more : (list more : List ℕ) → AreFoundBefore from list → AreAdded symbols index word list 64 more
        → AreFoundBefore (index + 1) more
    found-more list more so_far added n = grind (arith, so_far n, added n, found-here n, found-there n, first.from_on)

  -- those in all words, in order, are the numbers whose symbols pass the test
  pub found-all : (from : ℕ) (list ordered : List ℕ) → NoneFromWord test from → AreFoundBefore from list
      → IsOrdered nat_cmp list ordered → ordered ≡ hits (λ n. test (slice_index symbols n)) 0 (length symbols)
  found-all from list ordered none found is =
      one-sorted nat_cmp nat_cmp_total ordered (hits passes 0 (length symbols)) is.rising
      (hits-ascend passes (length symbols) 0) to back
    where
      passes : ℕ → Bool
      passes n = test (slice_index symbols n)

      before : (t : ℕ) → test t ≡ true → t / 64 < from
      before t holds = grind (arith, holds, none t)

      to : (z : ℕ) → AnyByRecursion (λ x. x ≡ z) ordered → AnyByRecursion (λ x. x ≡ z) (hits passes 0 (length symbols))
      to z there =
          let at = (found z).0 ((is.same z).0 (contains_from ordered z there)) in
          hit-from passes (λ x. x ≡ z) (length symbols) 0 z (omega arith)
          (let within = slice_get_within symbols z at.0 at.3 in omega (arith, within))
          (ap test (get_or_from_slice_get symbols z at.0 0 at.3) ∙ at.2) refl

      back : (z : ℕ) → AnyByRecursion (λ x. x ≡ z) (hits passes 0 (length symbols))
          → AnyByRecursion (λ x. x ≡ z) ordered
      back z there =
          let hit = hit-to passes (λ x. x ≡ z) (length symbols) 0 (length symbols) (omega arith) there in
          let t : ℕ = slice_index symbols hit.number in
          let at = sym (ap (slice_get symbols) hit.holds) ∙ slice_get-get_or symbols hit.number 0 hit.below in
          contains_to ordered z ((is.same z).1 ((found z).1 (t, before t hit.passes, hit.passes, at)))
