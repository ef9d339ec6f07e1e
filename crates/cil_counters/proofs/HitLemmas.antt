-- Numbers at which a test holds, one number more.
use Rattle.std.proofs.Common.{◌≡◌, ◌∙◌, ◌+◌, ℕ, zero, suc, Bool, true, false, List, [], ◌∷◌, ◌++◌, if◌then◌else◌, refl, ap, arith}
use Rattle.cil_violations.specs.Rows.{hits}

abbrev last : (ℕ → Bool) → ℕ → List ℕ
last test n = if test n then n ∷ [] else []

more : (test : ℕ → Bool) (n from : ℕ) → hits test from (suc n) ≡ hits test from n ++ last test (from + n)
more test zero from = ap (last test) (let same : from ≡ from + 0 = omega arith in same)
more test (suc n) from =
    by (test from) (hits test (suc from) (suc n)) (hits test (suc from) n) (last test (suc from + n)) (more test n (suc from))
    ∙ ap (λ m. hits test from (suc n) ++ last test m) (let same : suc from + n ≡ from + suc n = omega arith in same)
  where
    by : (b : Bool) (all some end : List ℕ) → all ≡ some ++ end → (if b then from ∷ all else all) ≡ (if b then from ∷ some else some) ++ end
    by true all some end is = ap (λ l. from ∷ l) is
    by false all some end is = is

-- where it holds at the next number, that comes last
pub hits-with : (test : ℕ → Bool) (n : ℕ) → test n ≡ true → hits test 0 (n + 1) ≡ hits test 0 n ++ n ∷ []
hits-with test n holds =
    ap (hits test 0) (let same : n + 1 ≡ suc n = omega arith in same) ∙ more test n 0 ∙ ap (λ m. hits test 0 n ++ last test m) (let same : 0 + n ≡ n = omega arith in same)
    ∙ ap (λ b. hits test 0 n ++ (if b then n ∷ [] else [])) holds

pub hits-without : (test : ℕ → Bool) (n : ℕ) → test n ≡ false → hits test 0 (n + 1) ≡ hits test 0 n
hits-without test n fails =
    ap (hits test 0) (let same : n + 1 ≡ suc n = omega arith in same) ∙ more test n 0 ∙ ap (λ m. hits test 0 n ++ last test m) (let same : 0 + n ≡ n = omega arith in same)
    ∙ ap (λ b. hits test 0 n ++ (if b then n ∷ [] else [])) fails ∙ nothing (hits test 0 n)
  where
    nothing : (l : List ℕ) → l ++ [] ≡ l
    nothing [] = refl
    nothing (x ∷ l) = ap (λ m. x ∷ m) (nothing l)
