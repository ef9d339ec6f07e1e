use Rattle.cil_resolve.proofs.Common.{List, flat_map, take, Placed, AreNaming, naming, KnowNumbers, IsLowering, ArePermissionSets, modules_of, permission_set_if}
use Rattle.cil_resolve.proofs.lowering.Lowering.permission_sets.Given as goal

abbrev pub invariant-loop-k : goal.invariant-loop-k
invariant-loop-k g l = (policy : List Placed) → IsLowering l.self policy → AreNaming policy l.naming → KnowNumbers l.self l.fn.known policy
    → (ArePermissionSets (modules_of l.self.checker.now.bound.joined.now) l.self.numbering.now.names.items policy l.sets.items (flat_map (permission_set_if policy) (take l.k (naming policy)))) × KnowNumbers l.self l.known policy
