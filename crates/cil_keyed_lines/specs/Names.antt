-- The lines that places name, and the log of how these changed.
use Rattle.std.specs.Prelude.{◌≡◌, ◌≢◌, ◌⊎◌, ◌<◌, ◌==◌, ℕ, Bool, true, cond, List, [], ◌∷◌, length, reverse, slice_index, sum_by, if◌then◌else◌}
use Rattle.std.specs.List.{list_any, All}
use Rattle.cil_keyed_lines.specs.declared.named.Named.{Named}
use Rattle.cil_keyed_lines.specs.declared.names.Rename.{Rename}

-- the line that each place names, how many lines there are, the places that changed their line from the oldest change
-- on, and how many more changes can be logged without memory
pub record Naming : Type 0 where
  pub named : List ℕ
  pub lines : ℕ
  pub log : List Rename
  pub room : ℕ

-- 1 where it is true
abbrev pub one_if : Bool → ℕ
one_if b = cond b 1 0

-- how many places name a line
abbrev pub uses : List ℕ → ℕ → ℕ
uses named l = sum_by (λ n. one_if (n == l)) named

-- how often a place is among others
abbrev pub times : List Named → ℕ → ℕ
times group p = sum_by (λ n. one_if (n.place == p)) group

-- the lines that places named before a change
abbrev pub named_back : Rename → (ℕ → ℕ) → ℕ → ℕ
named_back r f p = if p == r.place then r.line else f p

-- the lines that they named before the changes of a log, the newest first
abbrev pub unnamed : List Rename → (ℕ → ℕ) → ℕ → ℕ
unnamed [] f = f
unnamed (r ∷ rs) f = unnamed rs (named_back r f)

-- the line that a place names: 0 where there is no such place
abbrev pub name_now : Naming → ℕ → ℕ
name_now n = slice_index n.named

-- the line that it named before the changes
abbrev pub name_before : Naming → ℕ → ℕ
name_before n = unnamed (reverse n.log) (slice_index n.named)

-- whether a place is among those that changed their line
abbrev pub has_place : List Rename → ℕ → Bool
has_place log p = list_any (λ r. r.place == p) log

-- a change is of a place that there is, and of line 0 or a line that there is
abbrev pub IsOf : ℕ → ℕ → Rename → Type 0
IsOf places lines r = (r.place < places) × ((r.line ≡ 0) ⊎ (r.line < lines))

-- It is told of each line but 0 how many places name it. A line that isn't there is named by none.
pub record AreNames (named users : List ℕ) (log : List Rename) : Type 0 where
  pub counted : (l : ℕ) → l ≢ 0 → slice_index users l ≡ uses named l
  pub changes : All (IsOf (length named) (length users)) log

-- each place that names line 0 changed its line
abbrev pub AreLogged : Naming → Type 0
AreLogged n = (p : ℕ) → p < length n.named → name_now n p ≡ 0 → has_place n.log p ≡ true
