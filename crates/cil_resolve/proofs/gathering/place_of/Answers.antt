use Rattle.cil_resolve.proofs.GatheredLemmas.{found-number, absent-number}
use Rattle.cil_resolve.proofs.gathering.place_of.Goals as goal

pub returns-clause-some : goal.returns-clause-some
returns-clause-some c = found-number c.args.numbers.now c.requires c.args.number c.binary_search.result c.binary_search.ensures.bound c.binary_search.ensures.position c.ok.result c.ok.ensures.value

pub returns-clause-none : goal.returns-clause-none
returns-clause-none c = absent-number c.args.numbers.now c.requires c.args.number c.binary_search.result c.binary_search.ensures.bound c.binary_search.ensures.position c.ok.result c.ok.ensures.value
