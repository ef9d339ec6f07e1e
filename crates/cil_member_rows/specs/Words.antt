-- Words that stand behind one another.
use Rattle.std.specs.Prelude.{◌<◌, ◌≤◌, ◌⊎◌, ℕ}
use Rattle.cil_member_rows.specs.declared.words.Words.{Words}

-- a word is none of those from the first one to behind the last one
abbrev pub IsOutside : Words → ℕ → Type 0
IsOutside words w = (w < words.first) ⊎ (words.end ≤ w)

-- there is a word
abbrev pub AreSome : Words → Type 0
AreSome words = words.first < words.end
