use Rattle.cil_parse.proofs.Common.{[], name_nodes, Adds}
use Rattle.cil_parse.proofs.builder.Builder.nodes_of_names.Given as goal

abbrev pub invariant-loop-i : goal.invariant-loop-i
invariant-loop-i g l = Adds l.initial.self l.self [] (name_nodes l._i)
