use Rattle.std.proofs.Common.{take}
use Rattle.cil_parse.specs.Lexicon.{seen, AreNumbersOf}
use Rattle.cil_parse.proofs.permission_lists.numbered.Given as goal

abbrev pub invariant-loop-i : goal.invariant-loop-i
invariant-loop-i g l = AreNumbersOf (seen l.distinct.keys) l.numbers.items (take l.i l.lists.0)
