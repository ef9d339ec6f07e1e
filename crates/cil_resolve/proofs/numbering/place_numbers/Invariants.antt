use Rattle.cil_resolve.proofs.Common.{◌≡◌, List, length, map, Placed, IsOf, full_name_of, AreNaming, naming}
use Rattle.cil_resolve.proofs.NamingLemmas.{HaveAt, FitsPlace}
use Rattle.cil_resolve.proofs.numbering.place_numbers.Given as goal

abbrev pub invariant-loop-k : goal.invariant-loop-k
invariant-loop-k g l = record {
  long : (policy : List Placed) → IsOf l.bound policy → length l.places.items ≡ length policy;
  placed : (policy : List Placed) → IsOf l.bound policy → AreNaming policy l.naming → l.full_names.0 ≡ map full_name_of (naming policy)
      → HaveAt (FitsPlace l.names policy) 0 l.naming l.k l.places.items;
}
