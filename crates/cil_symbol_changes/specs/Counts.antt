-- How many accesses came and went.
use Rattle.std.specs.Prelude.{◌≡◌, ◌≢◌, ◌↔◌, ◌&&◌, ℕ, Bool, List, length, nat_lt, not, IsTrue}
use Rattle.std.specs.List.{AllPairs, Contains}
use Rattle.cil_keyed_lines.specs.Keyed.{Keyed, before_at, now_at}
use Rattle.cil_keyed_lines.specs.declared.symbol_key.SymbolKey.{SymbolKey}
use Rattle.cil_sums.specs.Rises.{RisesBy}
use Rattle.cil_symbol_changes.specs.declared.counted_changes.ChangeCounts.{ChangeCounts}

-- whether a counter was 0 and is above 0
abbrev pub has_risen : ℕ → ℕ → Bool
has_risen was is = nat_lt 0 is && not (nat_lt 0 was)

-- whether that of an access did so, by key and target
abbrev pub has_come : (SymbolKey → ℕ → ℕ) → (SymbolKey → ℕ → ℕ) → SymbolKey × ℕ → Bool
has_come was is p = has_risen (was p.0 p.1) (is p.0 p.1)

-- whether that of a place and a target did so
abbrev pub has_come_at : (ℕ → ℕ → ℕ) → (ℕ → ℕ → ℕ) → ℕ → ℕ → Bool
has_come_at was is place t = has_risen (was place t) (is place t)

-- whether it came since the last settling, whether it went, and whether it stands
abbrev pub came_at : Keyed → ℕ → ℕ → Bool
came_at lines = has_come_at (before_at lines) (now_at lines)

abbrev pub went_at : Keyed → ℕ → ℕ → Bool
went_at lines = has_come_at (now_at lines) (before_at lines)

abbrev pub present_at : Keyed → ℕ → ℕ → Bool
present_at lines = has_come_at (λ place t. 0) (now_at lines)

-- So many things pass a test.
pub record AreSoMany {X : Type 0} (test : X → Bool) (count : ℕ) : Type 0 where
  pub those : List X
  pub exact : (x : X) → Contains those x ↔ IsTrue (test x)
  pub once : AllPairs (λ x y. x ≢ y) those
  pub all : count ≡ length those

-- So many pass the test of those that came, and so many the test of those that went. A number stays at the greatest u128 where it would
-- pass it.
pub record AreCounted {X : Type 0} (came went : X → Bool) (counts : ChangeCounts) : Type 0 where
  pub added : RisesBy came 0 counts.added
  pub removed : RisesBy went 0 counts.removed
