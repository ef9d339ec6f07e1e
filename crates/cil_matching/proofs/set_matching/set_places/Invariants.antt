use Rattle.cil_matching.proofs.Common.{IsSameSet, sets_in}
use Rattle.cil_matching.proofs.FilledLemmas.{AreFilled}
use Rattle.cil_matching.proofs.set_matching.set_places.Given as goal

-- so many places are filled in
abbrev pub invariant-loop-i : goal.invariant-loop-i
invariant-loop-i g l = AreFilled IsSameSet (sets_in l.old) (sets_in l.new) l.i l.initial.places.items l.places.items
