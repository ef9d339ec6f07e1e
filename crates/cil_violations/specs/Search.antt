-- The numbers at which a test holds, and the words of 64 numbers that they stand in.
use Rattle.std.specs.Prelude.{◌≡◌, ◌==◌, ◌*◌, ◌/◌, ◌+◌, ◌<◌, ◌≤◌, ℕ, zero, suc, Bool, IsTrue, false, List, [], ◌∷◌, if◌then◌else◌}
use Rattle.std.specs.Int.{bit_at}

-- the numbers from one on, so many of them, at which it holds
abbrev pub hits : (ℕ → Bool) → ℕ → ℕ → List ℕ
hits test from zero = []
hits test from (suc n) = if test from then from ∷ hits test (suc from) n else hits test (suc from) n

-- it holds at no number from one on
abbrev pub NoneFrom : (ℕ → Bool) → ℕ → Type 0
NoneFrom test from = (n : ℕ) → from ≤ n → test n ≡ false

-- the bits of the word at an index tell its 64 numbers
abbrev pub IsWordOf : (ℕ → Bool) → ℕ → ℕ → Type 0
IsWordOf test index word = (b : ℕ) → b < 64 → (bit_at word b == 1) ≡ test (64 * index + b)

-- it holds at no number of a word from one on
abbrev pub NoneFromWord : (ℕ → Bool) → ℕ → Type 0
NoneFromWord test from = (n : ℕ) → from ≤ n / 64 → test n ≡ false

-- the first word from one on in which it holds at a number
pub record IsFirstWordFrom (test : ℕ → Bool) (from first : ℕ) : Type 0 where
  pub from_on : from ≤ first
  pub holds : (n : ℕ) × (n / 64 ≡ first) × IsTrue (test n)
  pub before : (n : ℕ) → from ≤ n / 64 → n / 64 < first → test n ≡ false
