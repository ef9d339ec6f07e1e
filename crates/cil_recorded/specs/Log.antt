-- What a log of steps says of the counters before them, by line and target.
use Rattle.std.specs.Prelude.{◌≡◌, Bool, ℕ, ◌+◌, ◌-◌, ◌*◌, ◌<◌, ◌==◌, List, [], ◌∷◌, if◌then◌else◌, min, sum_by, MatchBool}
use Rattle.std.specs.List.{filter, list_any}
use Rattle.cil_lines.specs.Line.{hit}
use Rattle.cil_lines.specs.Limit.{CanRaise, CanLower}
use Rattle.cil_recorded.specs.declared.step.Step.{Step}

-- 1 for a target of the mask of a word in a line, and 0 for any other
unfoldable pub hit_at : ℕ → ℕ → ℕ → ℕ → ℕ → ℕ
hit_at line word mask l t = if l == line then hit word mask t else 0

-- the counters without a step
abbrev pub taken_back : Step → (ℕ → ℕ → ℕ) → ℕ → ℕ → ℕ
taken_back s f l t = if s.up then f l t - hit_at s.line s.word s.mask l t else f l t + hit_at s.line s.word s.mask l t

-- the counters before the steps of a log, the newest step first
abbrev pub undone : List Step → (ℕ → ℕ → ℕ) → ℕ → ℕ → ℕ
undone [] f = f
undone (s ∷ ss) f = undone ss (taken_back s f)

-- a step of one of n lines can be taken back without memory
abbrev pub CanTakeBack : ℕ → Step → (ℕ → ℕ → ℕ) → (ℕ → ℕ → ℕ) → Type 0
CanTakeBack n s f limits = (s.line < n) × MatchBool s.up (CanLower (f s.line) s.word s.mask) (CanRaise (f s.line) (limits s.line) s.word s.mask)

-- each step can be taken back without memory, from the newest on
abbrev pub CanUndo : ℕ → List Step → (ℕ → ℕ → ℕ) → (ℕ → ℕ → ℕ) → Type 0
CanUndo n [] f limits = Unit {0}
CanUndo n (s ∷ ss) f limits = CanTakeBack n s f limits × CanUndo n ss (taken_back s f) limits

-- 1 for a target of a line that a step let appear, 3 for one that it let go, and 0 for any other
abbrev pub turned_by : Step → ℕ → ℕ → ℕ
turned_by s l t = if s.up then hit_at s.line s.word s.turned l t else 3 * hit_at s.line s.word s.turned l t

-- the sum of these over steps: modulo 4, how often they let a target appear, less how often they let it go
abbrev pub turned_in : List Step → ℕ → ℕ → ℕ
turned_in ss l t = sum_by (λ s. turned_by s l t) ss

-- 1 for a target of a line that a step let appear, and 0 for any other
abbrev pub came_by : Step → ℕ → ℕ → ℕ
came_by s l t = if s.up then hit_at s.line s.word s.turned l t else 0

-- 1 for one that it let go
abbrev pub went_by : Step → ℕ → ℕ → ℕ
went_by s l t = if s.up then 0 else hit_at s.line s.word s.turned l t

-- how often steps let a target of a line appear, and how often they let it go
abbrev pub came_in : List Step → ℕ → ℕ → ℕ
came_in ss l t = sum_by (λ s. came_by s l t) ss

abbrev pub went_in : List Step → ℕ → ℕ → ℕ
went_in ss l t = sum_by (λ s. went_by s l t) ss

-- these and whether a target was present make whether it is
abbrev pub IsTurned : List Step → (ℕ → ℕ → ℕ) → (ℕ → ℕ → ℕ) → Type 0
IsTurned ss now before = (l t : ℕ) → came_in ss l t + min 1 (before l t) ≡ went_in ss l t + min 1 (now l t)

-- the steps down behind which no counter of their word is above 0
abbrev pub falls : List Step → List Step
falls ss = filter (λ s. s.clears) ss

-- whether a step of a list is of a line
abbrev pub has_line : List Step → ℕ → Bool
has_line ss l = list_any (λ s. s.line == l) ss
