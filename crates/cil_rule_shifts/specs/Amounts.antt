-- How far the counters of keyed lines are moved, by so much for each key and target.
use Rattle.std.specs.Prelude.{◌≡◌, ◌+◌, ◌≤◌, ℕ, Bool}
use Rattle.cil_keyed_lines.specs.Keyed.{Keyed, count_now}
use Rattle.cil_keyed_lines.specs.declared.symbol_key.SymbolKey.{SymbolKey}
use Rattle.cil_rule_shifts.specs.Reach.{one_if}

-- 1 where a test holds
abbrev pub ones : (SymbolKey × ℕ → Bool) → SymbolKey → ℕ → ℕ
ones test key t = one_if (test (key, t))

-- from one amount to another
abbrev pub AreMoved : (old new : Keyed) → (was is : SymbolKey → ℕ → ℕ) → Type 0
AreMoved old new was is = (key : SymbolKey) (t : ℕ) → count_now new key t + was key t ≡ count_now old key t + is key t

-- from nothing
abbrev pub AreRaised : (old new : Keyed) → (SymbolKey → ℕ → ℕ) → Type 0
AreRaised old new is = (key : SymbolKey) (t : ℕ) → count_now new key t ≡ count_now old key t + is key t

-- to nothing
abbrev pub AreLowered : (old new : Keyed) → (SymbolKey → ℕ → ℕ) → Type 0
AreLowered old new was = (key : SymbolKey) (t : ℕ) → count_now new key t + was key t ≡ count_now old key t

-- they count no less than that
abbrev pub CountAtLeast : Keyed → (SymbolKey → ℕ → ℕ) → Type 0
CountAtLeast lines least = (key : SymbolKey) (t : ℕ) → least key t ≤ count_now lines key t
