use Rattle.cil_symbol_changes.proofs.Common.{◌-◌, length, now_at, AreGained, IsTo}
use Rattle.cil_symbol_changes.proofs.PresentLemmas.{IsBefore}
use Rattle.cil_symbol_changes.proofs.present_chunks.push_line.Given as goal

-- the words so far are taken
abbrev pub invariant-loop-word : goal.invariant-loop-word
invariant-loop-word g l =
    AreGained (IsTo l.numbers l.key (IsBefore (now_at l.lines l.place) l.from))
    l.fn.growing.chunks.items l.growing.chunks.items

abbrev pub decreases-loop-word : goal.decreases-loop-word
decreases-loop-word g l = length l.numbers - l.from
