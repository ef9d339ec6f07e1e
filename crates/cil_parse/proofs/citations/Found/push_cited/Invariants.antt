use Rattle.std.proofs.Common.{take}
use Rattle.cil_parse.specs.Citations.{cited, Finds}
use Rattle.cil_parse.proofs.citations.Found.push_cited.Given as goal

abbrev pub invariant-loop-k : goal.invariant-loop-k
invariant-loop-k g l = Finds l.initial.self l.self (cited l.row 0 (take l.k l.words))
