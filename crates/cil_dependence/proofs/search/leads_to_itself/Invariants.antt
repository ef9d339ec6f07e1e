use Rattle.std.proofs.Common.{◌+◌, ◌*◌, length, sum_by, count_by}
use Rattle.cil_dependence.proofs.SearchLemmas.{IsSearched}
use Rattle.cil_dependence.proofs.search.leads_to_itself.Given as goal

abbrev pub invariant-loop-next : goal.invariant-loop-next
invariant-loop-next g l = IsSearched l.graph l.node l.fresh.items l.open.items

abbrev pub decreases-loop-next : goal.decreases-loop-next
decreases-loop-next g l = count_by (λ b. b) l.fresh.items * sum_by (λ to. length to.items) l.graph + length l.open.items
