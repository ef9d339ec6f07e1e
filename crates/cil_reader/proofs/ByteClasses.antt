-- Tables of bytes of a class.
use Rattle.std.proofs.Common.{◌≡◌, ℕ, ◌+◌, ◌<◌, Bool, true, false, not, ◌&&◌, zero, suc, List, [], ◌∷◌, length, get_or, refl, sym, ◌∙◌, ap, arith}
use Rattle.std.proofs.lemmas.Bool.{true≢false, and_parts}
use Rattle.std.proofs.Math.Dec.{eqb}
use Rattle.cil_reader.specs.ByteTable.{HasOne}

abbrev agree : Bool → Bool → Bool
agree true b = b
agree false b = not b

agree_is : (a b : Bool) → agree a b ≡ true → a ≡ b
agree_is true true e = refl
agree_is true false e = absurd (true≢false (sym e))
agree_is false true e = absurd (true≢false (sym e))
agree_is false false e = refl

module _ (is_of : ℕ → Bool) where
  -- whether a table from a byte on has 1 for those of a class alone
  abbrev pub tells : ℕ → List ℕ → Bool
  tells k [] = true
  tells k (c ∷ cs) = agree (eqb c 1) (is_of k) && tells (k + 1) cs

  told-at : (k : ℕ) (table : List ℕ) → tells k table ≡ true → (i : ℕ) → i < length table → eqb (get_or table i 0) 1 ≡ is_of (k + i)
  told-at k [] all i within = absurd (omega (arith, within))
  told-at k (c ∷ cs) all zero within =
      agree_is (eqb c 1) (is_of k) (and_parts (agree (eqb c 1) (is_of k)) (tells (k + 1) cs) all).0 ∙ ap is_of (let e : k ≡ k + 0 = omega arith in e)
  told-at k (c ∷ cs) all (suc i) within =
      told-at (k + 1) cs (and_parts (agree (eqb c 1) (is_of k)) (tells (k + 1) cs) all).1 i (omega (arith, within))
      ∙ ap is_of (let e : (k + 1) + i ≡ k + suc i = omega arith in e)

  -- what such a table says of a byte
  pub byte-at : {table : List ℕ} {b : ℕ} {result : Bool} → HasOne table b result → tells 0 table ≡ true → b < length table → result ≡ is_of b
  byte-at {table} {b} {result} has all within = has.is ∙ told-at 0 table all b within ∙ ap is_of (let e : 0 + b ≡ b = omega arith in e)
