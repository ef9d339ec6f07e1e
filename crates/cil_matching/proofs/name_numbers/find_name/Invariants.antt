use Rattle.cil_matching.proofs.Common.{name_cmp, AreBefore}
use Rattle.cil_matching.proofs.name_numbers.find_name.Given as goal

-- so many stand before
abbrev pub invariant-loop-j : goal.invariant-loop-j
invariant-loop-j g l = AreBefore name_cmp l.old.names.items l.new.names.items l.i l.j
