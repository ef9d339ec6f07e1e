use Rattle.cil_resolve.proofs.Common.{◌≡◌, ℕ, List, length, Placed, IsFaultless, HavePlaces, AreNaming, «Type»}
use Rattle.cil_check.specs.Checker.{IsNoted}
use Rattle.cil_resolve.proofs.NamingLemmas.{HaveAt, FitsElement}
use Rattle.cil_resolve.proofs.elements.elements.Given as goal

abbrev pub invariant-loop-k : goal.invariant-loop-k
invariant-loop-k g l = record {
  long : (policy : List Placed) → IsNoted l.checker policy → length l.elements.items ≡ length policy;
  made : (names : List (List ℕ)) (policy : List Placed) → IsNoted l.checker policy → IsFaultless policy → AreNaming policy l.naming → HavePlaces names policy l.places
      → HaveAt (FitsElement names policy) («Type» 0) l.naming l.k l.elements.items;
}
