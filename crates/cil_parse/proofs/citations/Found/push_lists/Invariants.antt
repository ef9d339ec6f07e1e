use Rattle.std.proofs.Common.{[], take}
use Rattle.cil_parse.specs.Citations.{citation_lists, IsFound}
use Rattle.cil_parse.proofs.citations.Found.push_lists.Given as goal

abbrev pub invariant-loop-i : goal.invariant-loop-i
invariant-loop-i g l = IsFound l.initial.self [] [] → IsFound l.self (citation_lists (take l.i l.rows) (take l.i l.words.0)) []
