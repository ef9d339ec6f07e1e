-- The rows of tests are those that pass them.
use Rattle.cil_violations.proofs.Common.{◌≡◌, ◌∙◌, inl, inr, ℕ, zero, suc, ◌+◌, ◌<◌, ◌≤◌, Bool, true, false, cond, List, [], ◌∷◌, refl, sym, ap, subst, arith, true≢false, cases_eq, AnyByRecursion, any-flat_map, any_from_flat_map, hits, Tests, row_with, rows_at, target_rows, source_rows, pair_rows, all_rows, RowNumbers}

-- a number below a bound passes a test, and P holds of it
pub record Hit (test : ℕ → Bool) (all : ℕ) (P : ℕ → Type 0) : Type 0 where
  pub number : ℕ
  pub below : number < all
  pub passes : test number ≡ true
  pub holds : P number

pub hit-to : (test : ℕ → Bool) (P : ℕ → Type 0) (n from all : ℕ) → from + n ≡ all → AnyByRecursion P (hits test from n) → Hit test all P
hit-to test P zero from all is none = absurd none
hit-to test P (suc n) from all is some = by (hit-to test P n (suc from) all (omega (arith, is))) (test from) refl some
  where
    by : (AnyByRecursion P (hits test (suc from) n) → Hit test all P) → (b : Bool) → test from ≡ b → AnyByRecursion P (cond b (from ∷ hits test (suc from) n) (hits test (suc from) n)) → Hit test all P
    by rest true passes (inl holds) = record { number = from; below = omega (arith, is); passes = passes; holds = holds }
    by rest true passes (inr later) = rest later
    by rest false fails later = rest later

pub hit-from : (test : ℕ → Bool) (P : ℕ → Type 0) (n from k : ℕ) → from ≤ k → k < from + n → test k ≡ true → P k → AnyByRecursion P (hits test from n)
hit-from test P zero from k low high passes holds = absurd (omega (arith, low, high))
hit-from test P (suc n) from k low high passes holds = by (λ apart. hit-from test P n (suc from) k (omega (arith, low, apart)) (omega (arith, high)) passes holds) (test from) refl
  where
    by : ((from ≡ k → ⊥) → AnyByRecursion P (hits test (suc from) n)) → (b : Bool) → test from ≡ b → AnyByRecursion P (cond b (from ∷ hits test (suc from) n) (hits test (suc from) n))
    by rest true is = elim (cases_eq from k) [ inl same ↦ inl (subst P (sym same) holds) | inr apart ↦ inr (rest apart) ]
    by rest false is = rest (λ same. true≢false (sym passes ∙ ap test (sym same) ∙ is))

-- a row passes the tests, its numbers being below the bounds
pub record Passes (tests : Tests) (rules names : ℕ) (row : RowNumbers) : Type 0 where
  pub never_below : row.never < rules
  pub allowed_below : row.allowed < rules
  pub source_below : row.source < names
  pub target_below : row.target < names
  pub class_below : row.class < names
  pub never : tests.never row.never ≡ true
  pub pair : tests.pair row.never row.allowed ≡ true
  pub source : tests.source row.never row.allowed row.source ≡ true
  pub target : tests.target row.never row.allowed row.source row.target ≡ true
  pub the_class : tests.the_class row.never row.allowed row.class ≡ true

module _ (tests : Tests) (rules names : ℕ) (row : RowNumbers) where
  abbrev classes : ℕ → ℕ → List ℕ
  classes i j = hits (tests.the_class i j) 0 names

  pub found : Passes tests rules names row → AnyByRecursion (λ x. x ≡ row) (all_rows tests rules names)
  found is =
      any-flat_map (pair_rows tests rules names) (λ x. x ≡ row) (hits tests.never 0 rules)
      (hit-from tests.never (λ i. AnyByRecursion (λ x. x ≡ row) (pair_rows tests rules names i)) rules 0 row.never (omega arith) (let l = is.never_below in omega (arith, l)) is.never
      (any-flat_map (source_rows tests names row.never) (λ x. x ≡ row) (hits (tests.pair row.never) 0 rules)
      (hit-from (tests.pair row.never) (λ j. AnyByRecursion (λ x. x ≡ row) (source_rows tests names row.never j)) rules 0 row.allowed (omega arith) (let l = is.allowed_below in omega (arith, l)) is.pair
      (any-flat_map (target_rows tests names row.never row.allowed) (λ x. x ≡ row) (hits (tests.source row.never row.allowed) 0 names)
      (hit-from (tests.source row.never row.allowed) (λ s. AnyByRecursion (λ x. x ≡ row) (target_rows tests names row.never row.allowed s)) names 0 row.source (omega arith) (let l = is.source_below in omega (arith, l)) is.source
      (any-flat_map (rows_at row.never row.allowed (classes row.never row.allowed) row.source) (λ x. x ≡ row) (hits (tests.target row.never row.allowed row.source) 0 names)
      (hit-from (tests.target row.never row.allowed row.source) (λ t. AnyByRecursion (λ x. x ≡ row) (rows_at row.never row.allowed (classes row.never row.allowed) row.source t)) names 0 row.target (omega arith) (let l = is.target_below in omega (arith, l)) is.target
      (any-flat_map (λ c. row_with row.never row.allowed row.source row.target c ∷ []) (λ x. x ≡ row) (classes row.never row.allowed)
      (hit-from (tests.the_class row.never row.allowed) (λ c. AnyByRecursion (λ x. x ≡ row) (row_with row.never row.allowed row.source row.target c ∷ [])) names 0 row.class (omega arith) (let l = is.class_below in omega (arith, l)) is.the_class
      (inl refl))))))))))

  pub passed : AnyByRecursion (λ x. x ≡ row) (all_rows tests rules names) → Passes tests rules names row
  passed there =
      let never = hit-to tests.never (λ i. AnyByRecursion (λ x. x ≡ row) (pair_rows tests rules names i)) rules 0 rules (omega arith) (any_from_flat_map (pair_rows tests rules names) (λ x. x ≡ row) (hits tests.never 0 rules) there) in
      let i = never.number in
      let pair = hit-to (tests.pair i) (λ j. AnyByRecursion (λ x. x ≡ row) (source_rows tests names i j)) rules 0 rules (omega arith) (any_from_flat_map (source_rows tests names i) (λ x. x ≡ row) (hits (tests.pair i) 0 rules) never.holds) in
      let j = pair.number in
      let source = hit-to (tests.source i j) (λ s. AnyByRecursion (λ x. x ≡ row) (target_rows tests names i j s)) names 0 names (omega arith) (any_from_flat_map (target_rows tests names i j) (λ x. x ≡ row) (hits (tests.source i j) 0 names) pair.holds) in
      let s = source.number in
      let target =
      hit-to (tests.target i j s) (λ t. AnyByRecursion (λ x. x ≡ row) (rows_at i j (classes i j) s t)) names 0 names (omega arith)
      (any_from_flat_map (rows_at i j (classes i j) s) (λ x. x ≡ row) (hits (tests.target i j s) 0 names) source.holds) in
      let t = target.number in
      let the_class =
      hit-to (tests.the_class i j) (λ c. AnyByRecursion (λ x. x ≡ row) (row_with i j s t c ∷ [])) names 0 names (omega arith)
      (any_from_flat_map (λ c. row_with i j s t c ∷ []) (λ x. x ≡ row) (classes i j) target.holds) in
      subst (Passes tests rules names) (only (row_with i j s t the_class.number) the_class.holds)
      (record {
        never_below = never.below;
        allowed_below = pair.below;
        source_below = source.below;
        target_below = target.below;
        class_below = the_class.below;
        never = never.passes;
        pair = pair.passes;
        source = source.passes;
        target = target.passes;
        the_class = the_class.passes;
      })
    where
      only : (x : RowNumbers) → AnyByRecursion (λ y. y ≡ row) (x ∷ []) → x ≡ row
      only x (inl is) = is
      only x (inr none) = absurd none
