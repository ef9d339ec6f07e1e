use Rattle.cil_resolve.proofs.Common.{List, take, IsTrue, list_all, Placed, has_name, texts, permissions_in, IsIn, AreNumbersIn, listed_names}
use Rattle.cil_resolve.proofs.lowering.Lowering.permissions.Given as goal

abbrev pub invariant-loop-word : goal.invariant-loop-word
invariant-loop-word g l = (policy : List Placed) (s : Placed) → IsIn l.self l.seen policy s → IsTrue (list_all (has_name (listed_names policy)) (texts (permissions_in s.form)))
    → AreNumbersIn l.self.numbering.now.names.items (texts (take l.word-index (permissions_in s.form))) l.permissions.items
