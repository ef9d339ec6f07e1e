-- Where references lead.
use Rattle.std.specs.Prelude.{◌≡◌, ℕ, Option, Some, None, Bool, true, false, eqb, if◌then◌else◌, refl}
use Rattle.std.proofs.Common.{sym}
use Rattle.std.proofs.lemmas.Bool.{eqb-true}

-- the place that a number of 32 bits tells: the greatest tells none
abbrev pub place_of : ℕ → Option ℕ
place_of n = if eqb n 4294967295 then None else Some n

-- the number that tells a place, or none
abbrev pub told_by : Option ℕ → ℕ
told_by None = 4294967295
told_by (Some n) = n

pub told_by-place_of : (n : ℕ) → told_by (place_of n) ≡ n
told_by-place_of n = at (eqb n 4294967295) refl
  where
    at : (b : Bool) → eqb n 4294967295 ≡ b → told_by (if b then None else Some n) ≡ n
    at true e = sym (eqb-true n 4294967295 e)
    at false e = refl
