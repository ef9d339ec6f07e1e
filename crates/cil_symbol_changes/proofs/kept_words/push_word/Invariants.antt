use Rattle.cil_symbol_changes.proofs.Common.{take, AreGained, IsAmong, IsAtWord}
use Rattle.cil_symbol_changes.proofs.kept_words.push_word.Given as goal

-- the lines so far are taken
abbrev pub invariant-loop-at : goal.invariant-loop-at
invariant-loop-at g l =
    AreGained (IsAmong (IsAtWord l.numbers l.lines l.fn.word) (take l.at-index l.source))
    l.fn.chunks.items l.chunks.items
