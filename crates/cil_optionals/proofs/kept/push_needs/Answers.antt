use Rattle.cil_optionals.proofs.kept.push_needs.Goals as goal

pub push_told-requires-clause-none : goal.push_told-requires-clause-none
push_told-requires-clause-none g c = λ all ready. c.new-listed.ensures.up_to all
