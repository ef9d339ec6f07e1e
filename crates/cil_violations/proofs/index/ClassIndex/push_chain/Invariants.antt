use Rattle.cil_violations.proofs.Common.{ℕ, List, IsChain, links_to}
use Rattle.cil_violations.proofs.IndexLemmas.{IsLeft}
use Rattle.cil_violations.proofs.index.ClassIndex.push_chain.Given as goal

abbrev pub invariant-loop-next : goal.invariant-loop-next
invariant-loop-next g l = (ns : List ℕ) → IsChain l.self.links.items ns l.fn.first → IsLeft l.self.links.items l.fn.list.items ns l.list.items l.next

abbrev pub decreases-loop-next : goal.decreases-loop-next
decreases-loop-next g l = links_to l.next
