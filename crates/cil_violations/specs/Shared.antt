-- Names whose symbols have a bit in a word.
use Rattle.std.specs.Prelude.{◌≡◌, ◌*◌, ◌+◌, ◌<◌, ℕ, List, slice_get, Some}
use Rattle.std.specs.Int.{bit_at}

-- the symbol of a name has one of the first bits of the word at an index, and that bit is set
abbrev pub HasBit : List ℕ → ℕ → ℕ → ℕ → ℕ → Type 0
HasBit symbols index word bits n =
    (b : ℕ) × (b < bits) × (bit_at word b ≡ 1) × (slice_get symbols n ≡ Some (64 * index + b))
