use Rattle.cil_parse.specs.Builder.{AddsNamesInFront}
use Rattle.cil_parse.proofs.builder.Builder.names_in_front.Given as goal

abbrev pub invariant-loop-i : goal.invariant-loop-i
invariant-loop-i g l = AddsNamesInFront l.initial.self l.self l.elements l.i
