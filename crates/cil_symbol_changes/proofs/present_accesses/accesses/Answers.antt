use Rattle.cil_symbol_changes.proofs.GainedLemmas.{alike-trans}
use Rattle.cil_symbol_changes.proofs.present_accesses.accesses.Goals as goal

pub returns-clause-present : goal.returns-clause-present
returns-clause-present g c a = alike-trans (c.of.ensures.same a) (c.in_ok-collect_present.ensures.given a)
