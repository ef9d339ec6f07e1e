use Rattle.cil_text.proofs.Common.{drop, role_of}
use Rattle.cil_text.proofs.FirstBad.{GoesOn}
use Rattle.cil_text.proofs.CheckLemmas.{of_words}
use Rattle.cil_text.proofs.check.check_words.Given as goal

abbrev pub invariant-loop-word : goal.invariant-loop-word
invariant-loop-word l = GoesOn (of_words (role_of l.role) l.words) (of_words (role_of l.role) (drop l.word-index l.words))
