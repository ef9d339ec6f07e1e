use Rattle.cil_bind.proofs.WordLemmas.{none-distinct}
use Rattle.cil_bind.proofs.policy.Policy.of.Goals as goal

pub of_names-requires-clause-distinct : goal.of_names-requires-clause-distinct
of_names-requires-clause-distinct g c = c.in_ok-words.ensures.distinct (none-distinct _ c.new-names.ensures)
