use Rattle.cil_violations.proofs.Common.{IsIndexOf, permissions_at}
use Rattle.cil_violations.proofs.MetLemmas.{AreGathered}
use Rattle.cil_violations.proofs.search.Search.heads.Given as goal

-- those of the permissions so far
abbrev pub invariant-loop-permission : goal.invariant-loop-permission
invariant-loop-permission g l = (is : IsIndexOf l.self.resolved.now l.self.permissions.now.0 l.self.index.now)
    → AreGathered is.holds.heads (permissions_at l.self l.never) l.permission-index l.last l.are_several l.list.items
