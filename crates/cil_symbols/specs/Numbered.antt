-- The symbols of a policy's names: their numbers among names that stay.
use Rattle.std.specs.Prelude.{◌≡◌, ◌+◌, ℕ, List, length, slice_get, Option, Some, is_none}
use Rattle.std.specs.List.{count_by}

-- for each number of a policy its symbol, and how many symbols there are
pub record Numbered : Type 0 where
  pub symbols : List ℕ
  pub count : ℕ

-- No two numbers have one symbol.
abbrev pub AreApart : List ℕ → Type 0
AreApart symbols = (j k s : ℕ) → slice_get symbols j ≡ Some s → slice_get symbols k ≡ Some s → j ≡ k

-- The one list has at each symbol the number that the other has the symbol at, and none at others.
pub record AreInverse (symbols : List ℕ) (locals : List (Option ℕ)) : Type 0 where
  pub back : (s k : ℕ) → slice_get locals s ≡ Some (Some k) → slice_get symbols k ≡ Some s
  pub forth : (k s : ℕ) → slice_get symbols k ≡ Some s → slice_get locals s ≡ Some (Some k)
  pub others : count_by is_none locals + length symbols ≡ length locals
