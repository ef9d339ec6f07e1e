-- Counters of a line, by the number of a target.
use Rattle.std.specs.Prelude.{◌≡◌, ℕ, ◌+◌, ◌-◌, ◌*◌, ◌/◌, ◌%◌, ◌<◌, ◌≤◌, ◌==◌, if◌then◌else◌, min, bit_and, ◌⊎◌, List, [], ◌∷◌}
use Rattle.std.specs.Int.{bit_at}
use Rattle.cil_lines.specs.Digit.{Words, bits_of, HasPlace}

-- the lowest digit of each counter, and the higher ones, the lowest of them first
pub record Counters : Type 0 where
  pub lowest : Words
  pub higher : List Words

-- the number whose binary digits are bit b of a word in each digit, the lowest first
abbrev pub value : List Words → ℕ → ℕ → ℕ
value [] w b = 0
value (d ∷ ds) w b = bit_at (bits_of d w) b + 2 * value ds w b

-- the bits of a word in all digits together: 0 where each of its counters is 0
abbrev pub total : List Words → ℕ → ℕ
total [] w = 0
total (d ∷ ds) w = bits_of d w + total ds w

-- the counter of a target
unfoldable pub count_of : Counters → ℕ → ℕ
count_of c t = value (c.lowest ∷ c.higher) (t / 64) (t % 64)

-- 1 for a target of the mask of a word, and 0 for any other
unfoldable pub hit : ℕ → ℕ → ℕ → ℕ
hit word mask t = if t / 64 == word then bit_at mask (t % 64) else 0

-- what is carried into each digit has a place there, and nothing is carried out of the last
abbrev pub HasRoom : List Words → ℕ → ℕ → Type 0
HasRoom [] w carry = carry ≡ 0
HasRoom (d ∷ ds) w carry = (carry ≡ 0) ⊎ (HasPlace d w × HasRoom ds w (bit_and carry (bits_of d w)))

-- the mask of the targets of a word whose counters are at least 1
abbrev pub IsPresence : (ℕ → ℕ) → ℕ → ℕ → Type 0
IsPresence counts word mask = (b : ℕ) → b < 64 → bit_at mask b ≡ min 1 (counts (64 * word + b))

-- the mask of the targets of a word whose counters are exactly 1
abbrev pub IsSingle : (ℕ → ℕ) → ℕ → ℕ → Type 0
IsSingle counts word mask = (b : ℕ) → b < 64 → bit_at mask b ≡ min 1 (counts (64 * word + b)) - min 1 (counts (64 * word + b) - 1)

-- no counter from a word on is at least 1
abbrev pub NonePresent : (ℕ → ℕ) → ℕ → Type 0
NonePresent counts from = (t : ℕ) → from ≤ t / 64 → counts t ≡ 0

-- the first word from one on that has a counter of at least 1
pub record IsNextPresent (counts : ℕ → ℕ) (from next : ℕ) : Type 0 where
  pub from_on : from ≤ next
  pub present : (t : ℕ) × (t / 64 ≡ next) × (0 < counts t)
  pub first : (t : ℕ) → from ≤ t / 64 → t / 64 < next → counts t ≡ 0
