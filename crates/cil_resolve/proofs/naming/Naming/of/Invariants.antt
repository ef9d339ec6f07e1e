use Rattle.cil_resolve.proofs.Common.{List, Placed, IsOf}
use Rattle.cil_resolve.proofs.NamingLemmas.{AreNamingBelow}
use Rattle.cil_resolve.proofs.naming.Naming.of.Given as goal

abbrev pub invariant-loop-i : goal.invariant-loop-i
invariant-loop-i g l = (policy : List Placed) → IsOf l.bound policy → AreNamingBelow policy l.i l.naming.places.items
