use Rattle.cil_bind.proofs.Common.{List, ℕ, take, Placed, HaveDeclared, AreRows, AreNumbered, IsOnce}
use Rattle.cil_bind.proofs.AboutNamesLemmas.{after_places}
use Rattle.cil_bind.proofs.declarations.Declarations.of_once.Given as goal

-- the entries have what is declared so far
abbrev pub invariant-loop-k : goal.invariant-loop-k
invariant-loop-k g l = (names spaces : List (List ℕ)) (policy : List Placed) → AreNumbered names spaces → AreRows names spaces l.rows policy → IsOnce policy
    → HaveDeclared names spaces l.declarations.first.entries (take (after_places 0 l.places l.k) policy)
