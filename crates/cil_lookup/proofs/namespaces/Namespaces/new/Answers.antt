use Rattle.std.proofs.Common.{sym, subst}
use Rattle.cil_lookup.specs.Namespaces.{AreSpaces}
use Rattle.cil_lookup.proofs.NamespaceLemmas.{no-blocks}
use Rattle.cil_lookup.proofs.namespaces.Namespaces.new.Goals as goal

pub invariant_of-result : goal.invariant_of-result
invariant_of-result g c = subst AreSpaces (sym c.new.ensures.empty) no-blocks
