-- Tables of bytes of a class.
use Rattle.std.specs.Prelude.{◌≡◌, ℕ, ◌==◌, Bool, slice_index, List}

-- whether a table has 1 for a byte
pub record HasOne (table : List ℕ) (b : ℕ) (result : Bool) : Type 0 where
  pub is : result ≡ (slice_index table b == 1)
