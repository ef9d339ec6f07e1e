-- One binary digit of the counters of a line, by words of 64.
use Rattle.std.specs.Prelude.{◌≡◌, ℕ, ◌+◌, ◌<◌, ◌≤◌, ◌^◌, ◌==◌, ltb, if◌then◌else◌, ◌⊎◌, List, [], ◌∷◌, length, slice_index, slice_index_or, Option, MatchOption}
use Rattle.cil_lines.specs.declared.digit.Entry.{Entry}

-- the first words, and entries for others behind them
pub record Words : Type 0 where
  pub dense : List ℕ
  pub sparse : List Entry

-- the bits of the first entry of a word; 0 where it has none
abbrev pub bits_in : List Entry → ℕ → ℕ
bits_in [] w = 0
bits_in (e ∷ es) w = if e.word == w then e.bits else bits_in es w

-- the words of entries rise, from n on and below m
abbrev pub Rises : ℕ → ℕ → List Entry → Type 0
Rises n m [] = Unit {0}
Rises n m (e ∷ es) = (n ≤ e.word) × (e.word < m) × Rises (e.word + 1) m es

-- the word has an entry
abbrev pub HasEntry : List Entry → ℕ → Type 0
HasEntry [] w = ⊥
HasEntry (e ∷ es) w = (e.word ≡ w) ⊎ HasEntry es w

-- the entry of a word; those before it are of lower words
pub record IsEntry (es : List Entry) (w i : ℕ) : Type 0 where
  pub within : i < length es
  pub at : (d : Entry) → (slice_index_or es i d).word ≡ w
  pub below : (k : ℕ) (d : Entry) → k < i → (slice_index_or es k d).word < w

-- the place where the entry of a word would stand, which has none
pub record IsGap (es : List Entry) (w i : ℕ) : Type 0 where
  pub within : i ≤ length es
  pub below : (k : ℕ) (d : Entry) → k < i → (slice_index_or es k d).word < w
  pub above : (k : ℕ) (d : Entry) → i ≤ k → k < length es → w < (slice_index_or es k d).word

-- the last among the words of entries and one more
pub record IsLast (es : List Entry) (w last : ℕ) : Type 0 where
  pub all : (k : ℕ) (d : Entry) → k < length es → (slice_index_or es k d).word ≤ last
  pub this : w ≤ last
  pub below : (m : ℕ) → w < m → ((k : ℕ) (d : Entry) → k < length es → (slice_index_or es k d).word < m) → last < m

-- the bits of a word
unfoldable pub bits_of : Words → ℕ → ℕ
bits_of d w = if ltb w (length d.dense) then slice_index d.dense w else bits_in d.sparse w

-- the word has a place, so that its bits can be changed without memory
unfoldable pub HasPlace : Words → ℕ → Type 0
HasPlace d w = (w < length d.dense) ⊎ HasEntry d.sparse w

-- by a function of words: none from one on is above 0, or none is before the word that is told
abbrev pub IsNext : (ℕ → ℕ) → ℕ → Option ℕ → Type 0
IsNext f from next = MatchOption next
    ((w : ℕ) → from ≤ w → f w ≡ 0)
    (λ n. (from ≤ n) × (n < 2 ^ 58) × ((w : ℕ) → from ≤ w → w < n → f w ≡ 0))
