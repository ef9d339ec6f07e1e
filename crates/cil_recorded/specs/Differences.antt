-- Targets that appeared or went, by line and word.
use Rattle.std.specs.Prelude.{ℕ, ◌+◌, ◌*◌, ◌^◌, ◌≤◌, List, [], ◌∷◌, sum_by, bit_and, bit_xor}
use Rattle.cil_recorded.specs.declared.turn.Turn.{Turn}
use Rattle.cil_recorded.specs.declared.recorded_lines.changes.Change.{Change}
use Rattle.cil_recorded.specs.Log.{hit_at}

-- a number that orders words of lines
unfoldable pub key_of : ℕ → ℕ → ℕ
key_of line word = line * 2 ^ 64 + word

-- the numbers of a list are at least k, and rise
abbrev pub Ascends : {X : Type 0} → (X → ℕ) → ℕ → List X → Type 0
Ascends key k [] = Unit {0}
Ascends key k (x ∷ xs) = (k ≤ key x) × Ascends key (key x + 1) xs

-- how often a turn let a target of a line appear, less how often it let it go, modulo 4
abbrev pub balance_of : Turn → ℕ → ℕ → ℕ
balance_of s l t = hit_at s.line s.word s.low l t + 2 * hit_at s.line s.word s.high l t

-- the sum of these over turns
abbrev pub balance_at : List Turn → ℕ → ℕ → ℕ
balance_at ts l t = sum_by (λ s. balance_of s l t) ts

-- the sums of the lower digits, and of the upper ones that stand alone
abbrev pub low_at : List Turn → ℕ → ℕ → ℕ
low_at ts l t = sum_by (λ s. hit_at s.line s.word s.low l t) ts

abbrev pub alone_at : List Turn → ℕ → ℕ → ℕ
alone_at ts l t = sum_by (λ s. hit_at s.line s.word (bit_xor s.high (bit_and s.low s.high)) l t) ts

abbrev pub turn_key : Turn → ℕ
turn_key s = key_of s.line s.word

-- how often a target of a line stands among those that appeared
abbrev pub appeared_at : List Change → ℕ → ℕ → ℕ
appeared_at cs l t = sum_by (λ c. hit_at c.line c.word c.appeared l t) cs

-- how often a target of a line stands among those that went
abbrev pub gone_at : List Change → ℕ → ℕ → ℕ
gone_at cs l t = sum_by (λ c. hit_at c.line c.word c.gone l t) cs

abbrev pub change_key : Change → ℕ
change_key c = key_of c.line c.word
