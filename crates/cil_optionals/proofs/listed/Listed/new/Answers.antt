use Rattle.cil_optionals.proofs.ListedLemmas.{commons-empty, inverse-none}
use Rattle.cil_optionals.proofs.PermissionLemmas.{upto-none}
use Rattle.cil_optionals.proofs.listed.Listed.new.Goals as goal

pub returns-clause-up_to : goal.returns-clause-up_to
returns-clause-up_to g c = λ all. upto-none all _ c.with_hasher.ensures.empty (commons-empty _ c.new.ensures.items)

pub returns-clause-inverse : goal.returns-clause-inverse
returns-clause-inverse g c = inverse-none _ c.with_hasher.ensures.empty c.new-2.ensures.empty c.new-3.ensures c.new-4.ensures.items (commons-empty _ c.new.ensures.items)
