use Rattle.cil_bind.proofs.Common.{List, ℕ, take, Placed, HaveDeclared, AreRows, AreNumbered, IsOnce}
use Rattle.cil_bind.proofs.AboutNamesLemmas.{after_places}
use Rattle.cil_bind.proofs.declarations.Declarations.of.Given as goal

-- no name is declared twice so far, and the entries have what is declared
abbrev pub invariant-loop-k : goal.invariant-loop-k
invariant-loop-k g l = (names spaces : List (List ℕ)) (policy : List Placed) → AreNumbered names spaces → AreRows names spaces l.rows policy
    → HaveDeclared names spaces l.declarations.first.entries (take (after_places 0 l.places l.k) policy) × IsOnce (take (after_places 0 l.places l.k) policy)
