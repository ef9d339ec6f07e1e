use Rattle.std.proofs.Common.{◌≡◌, ℕ, ◌≤◌, if◌then◌else◌, ltb, length, take, get_or}
use Rattle.cil_lines.specs.Digit.{Rises, bits_in}
use Rattle.cil_lines.proofs.digit.fill.Given as goal

-- the entries so far are written
abbrev pub invariant-loop-entry : goal.invariant-loop-entry
invariant-loop-entry l = (n : ℕ) → Rises n (length l.fn.words) l.entries → ((w : ℕ) → n ≤ w → get_or l.fn.words w 0 ≡ 0)
    → (w : ℕ) → get_or l.words w 0 ≡ (if ltb w n then get_or l.fn.words w 0 else bits_in (take l.entry-index l.entries) w)
