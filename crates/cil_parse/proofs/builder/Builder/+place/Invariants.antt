use Rattle.std.proofs.Common.{◌+◌, ◌*◌, take}
use Rattle.cil_parse.proofs.Common.{statements_of, Places}
use Rattle.cil_parse.proofs.builder.Builder.+place.Given as goal

abbrev pub decreases-place : goal.decreases-place
decreases-place g l = 2 * goal.size-place g l + 1

abbrev pub decreases-place_one : goal.decreases-place_one
decreases-place_one g l = 2 * goal.size-place_one g l

abbrev pub invariant-place-loop-statement : goal.invariant-place-loop-statement
invariant-place-loop-statement g l = Places l.initial.self l.self l.around (statements_of (take l.statement-index l.statements))
