-- Symbols by the bits of words of 64.
use Rattle.std.specs.Prelude.{◌≡◌, ◌==◌, ◌<◌, ◌*◌, ◌/◌, ◌%◌, ◌+◌, ◌&&◌, ℕ, Bool, false, List, slice_index}
use Rattle.std.specs.Int.{bit_at}
use Rattle.cil_member_updates.specs.Counts.{one_if}

-- whether the bit of a symbol is set in words
abbrev pub is_set : List ℕ → ℕ → Bool
is_set words t = bit_at (slice_index words (t / 64)) (t % 64) == 1

-- the bits of a word tell at which of its symbols a test holds
abbrev pub AreBits : (ℕ → Bool) → ℕ → ℕ → Type 0
AreBits test word bits = (b : ℕ) → b < 64 → bit_at bits b ≡ one_if (test (64 * word + b))

-- a test fails at each symbol of a word whose bit isn't set
abbrev pub Cover : (ℕ → Bool) → ℕ → ℕ → Type 0
Cover test word bits = (b : ℕ) → b < 64 → bit_at bits b ≡ 0 → test (64 * word + b) ≡ false

-- a test fails at each symbol of a word that has a bit among some bits and none among others
abbrev pub CoverAmong : ℕ → (ℕ → Bool) → ℕ → ℕ → Type 0
CoverAmong among test word bits = (b : ℕ) → b < 64 → bit_at among b ≡ 1 → bit_at bits b ≡ 0 → test (64 * word + b) ≡ false

-- the bits tell at which symbols of a word a test holds, among those of some bits
abbrev pub AreHeld : ℕ → (ℕ → Bool) → ℕ → ℕ → Type 0
AreHeld visits test word mask = (b : ℕ) → b < 64 → bit_at mask b ≡ one_if ((bit_at visits b == 1) && test (64 * word + b))
