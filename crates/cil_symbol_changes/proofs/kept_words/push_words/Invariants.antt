use Rattle.cil_symbol_changes.specs.Gained.{AreGained}
use Rattle.cil_symbol_changes.proofs.PresentLemmas.{UpTo}
use Rattle.cil_symbol_changes.proofs.kept_words.push_words.Given as goal

-- the words so far are taken
abbrev pub invariant-loop-word : goal.invariant-loop-word
invariant-loop-word g l = AreGained (UpTo l.numbers l.lines l.source l.word) l.fn.chunks.items l.chunks.items
