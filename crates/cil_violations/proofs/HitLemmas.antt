-- The numbers at which a test holds, found one after the other.
use Rattle.cil_violations.proofs.Common.{◌≡◌, ◌∙◌, inl, inr, ℕ, zero, suc, ◌+◌, ◌-◌, ◌<◌, ◌≤◌, ◌&&◌, AnyByRecursion, Bool, true, false, cond, List, [], ◌∷◌, ◌++◌, length, get_or, refl, sym, ap, arith, append_assoc, add-one, filter, NoneFrom, hits}
use Rattle.std.proofs.Common.{flat_map}

-- none where it holds at none
pub hits-none : (test : ℕ → Bool) (n from : ℕ) → NoneFrom test from → hits test from n ≡ []
hits-none test zero from none = refl
hits-none test (suc n) from none =
    ap (λ b. cond b (from ∷ hits test (suc from) n) (hits test (suc from) n)) (none from (omega arith)) ∙ hits-none test n (suc from) (λ k on. none k (omega arith))

-- a number at which it holds
pub hits-here : (test : ℕ → Bool) (all i : ℕ) → i < all → test i ≡ true → hits test i (all - i) ≡ i ∷ hits test (i + 1) (all - (i + 1))
hits-here test all i below holds =
    let more : all - i ≡ suc (all - suc i) = omega (arith, below) in
    ap (hits test i) more ∙ ap (λ b. cond b (i ∷ hits test (suc i) (all - suc i)) (hits test (suc i) (all - suc i))) holds
    ∙ (λ j. i ∷ hits test (sym (add-one i) j) (all - sym (add-one i) j))

-- one at which it doesn't
pub hits-past : (test : ℕ → Bool) (all i : ℕ) → i < all → test i ≡ false → hits test i (all - i) ≡ hits test (i + 1) (all - (i + 1))
hits-past test all i below fails =
    let more : all - i ≡ suc (all - suc i) = omega (arith, below) in
    ap (hits test i) more ∙ ap (λ b. cond b (i ∷ hits test (suc i) (all - suc i)) (hits test (suc i) (all - suc i))) fails ∙ (λ j. hits test (sym (add-one i) j) (all - sym (add-one i) j))

module _ {X : Type 0} (f : ℕ → List X) (whole : List X) where
  -- what stands for the first of some numbers goes over to what is done
  pub done-more : (done : List X) (first : ℕ) (numbers rest : List ℕ) → numbers ≡ first ∷ rest → done ++ flat_map f numbers ≡ whole → (done ++ f first) ++ flat_map f rest ≡ whole
  done-more done first numbers rest is so_far = append_assoc done (f first) (flat_map f rest) ∙ ap (λ ns. done ++ flat_map f ns) (sym is) ∙ so_far

  pub done-same : (done : List X) (numbers rest : List ℕ) → numbers ≡ rest → done ++ flat_map f numbers ≡ whole → done ++ flat_map f rest ≡ whole
  done-same done numbers rest is so_far = ap (λ ns. done ++ flat_map f ns) (sym is) ∙ so_far

-- they are below the bound
pub hits-below : (test : ℕ → Bool) (n from k : ℕ) → k < length (hits test from n) → get_or (hits test from n) k 0 < from + n
hits-below test zero from k within = absurd (omega (arith, within))
hits-below test (suc n) from k within = by (hits-below test n (suc from)) (test from) k within
  where
    by : ((j : ℕ) → j < length (hits test (suc from) n) → get_or (hits test (suc from) n) j 0 < suc from + n)
        → (b : Bool) (j : ℕ) → j < length (cond b (from ∷ hits test (suc from) n) (hits test (suc from) n))
        → get_or (cond b (from ∷ hits test (suc from) n) (hits test (suc from) n)) j 0 < from + suc n
    by rest true zero low = omega arith
    by rest true (suc j) low = let below = rest j (omega (arith, low)) in omega (arith, below)
    by rest false j low = let below = rest j low in omega (arith, below)

-- those of a wider test at which another one holds
pub hits-filter : (test wide other : ℕ → Bool) → ((k : ℕ) → test k ≡ (wide k && other k)) → (n from : ℕ) → hits test from n ≡ filter other (hits wide from n)
hits-filter test wide other is zero from = refl
hits-filter test wide other is (suc n) from =
    (let rest = hits-filter test wide other is n (suc from) in λ i. cond (is from i) (from ∷ rest i) (rest i)) ∙ split (wide from) (hits wide (suc from) n)
  where
    split : (b : Bool) (more : List ℕ) → cond (b && other from) (from ∷ filter other more) (filter other more) ≡ filter other (cond b (from ∷ more) more)
    split true more = refl
    split false more = refl

-- what is among them is within, and passes the test
pub hits-hold : (test : ℕ → Bool) (n from k : ℕ) → AnyByRecursion (λ x. x ≡ k) (hits test from n) → (from ≤ k) × (k < from + n) × (test k ≡ true)
hits-hold test zero from k none = absurd none
hits-hold test (suc n) from k some = by (λ there. let (on, below, holds) = hits-hold test n (suc from) k there in (omega (arith, on), omega (arith, below), holds)) (test from) refl some
  where
    by : (AnyByRecursion (λ x. x ≡ k) (hits test (suc from) n) → (from ≤ k) × (k < from + suc n) × (test k ≡ true))
        → (b : Bool) → test from ≡ b → AnyByRecursion (λ x. x ≡ k) (cond b (from ∷ hits test (suc from) n) (hits test (suc from) n)) → (from ≤ k) × (k < from + suc n) × (test k ≡ true)
    by later true is (inl same) = (omega (arith, same), omega (arith, same), ap test (sym same) ∙ is)
    by later true is (inr there) = later there
    by later false is there = later there
