use Rattle.cil_resolve.proofs.Common.{◌≡◌, ℕ, List, take, fold, Some, IsTrue, Placed, with_name, distinct, texts, own_permissions, kind_of, lists_own, IsLowering, AreNumbersIn}
use Rattle.std.proofs.Common.{slice_get}
use Rattle.cil_resolve.proofs.lowering.Lowering.add_listed.Given as goal

abbrev pub invariant-loop-word : goal.invariant-loop-word
invariant-loop-word g l = (policy : List Placed) (s : Placed) (before : List (List ℕ)) → IsLowering l.self policy → slice_get policy l.place ≡ Some s → IsTrue (lists_own (kind_of s.form))
    → AreNumbersIn l.self.numbering.now.names.items before l.fn.permissions.items
    → AreNumbersIn l.self.numbering.now.names.items (fold with_name before (take l.word-index (distinct (texts (own_permissions s.form))))) l.permissions.items
