-- Counters that were moved from what a set statement gave to what it gives.
use Rattle.std.specs.Prelude.{◌≡◌, ◌≢◌, ◌+◌, ◌/◌, ◌≤◌, ℕ}

-- counters of the symbols of a word
pub record IsMoved (word : ℕ) (was is : ℕ → ℕ → ℕ) (old new : ℕ → ℕ → ℕ) : Type 0 where
  pub here : (a t : ℕ) → t / 64 ≡ word → new a t + was a t ≡ old a t + is a t
  pub others : (a t : ℕ) → t / 64 ≢ word → new a t ≡ old a t

-- all counters
abbrev pub AreMoved : (was is : ℕ → ℕ → ℕ) → (old new : ℕ → ℕ → ℕ) → Type 0
AreMoved was is old new = (a t : ℕ) → new a t + was a t ≡ old a t + is a t

-- they are no less than so much: those of the symbols of a word, and all
abbrev pub IsAtLeast : ℕ → (least counts : ℕ → ℕ → ℕ) → Type 0
IsAtLeast word least counts = (a t : ℕ) → t / 64 ≡ word → least a t ≤ counts a t

abbrev pub AreAtLeast : (least counts : ℕ → ℕ → ℕ) → Type 0
AreAtLeast least counts = (a t : ℕ) → least a t ≤ counts a t

-- none where a set statement isn't
abbrev pub nothing : ℕ → ℕ → ℕ
nothing a t = 0
