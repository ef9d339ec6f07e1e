use Rattle.cil_resolve.proofs.Common.{List, take, Placed, AreNaming, KnowNumbers, IsLowering, ArePartsOf, modules_of}
use Rattle.cil_resolve.proofs.lowering.Lowering.parts.Given as goal

abbrev pub invariant-loop-i : goal.invariant-loop-i
invariant-loop-i g l = (policy : List Placed) → IsLowering l.self policy → AreNaming policy l.naming.places.items → (ArePartsOf (modules_of l.self.checker.now.bound.joined.now) l.self.numbering.now.names.items policy (take l.i policy) l.parts) × KnowNumbers l.self l.known policy
