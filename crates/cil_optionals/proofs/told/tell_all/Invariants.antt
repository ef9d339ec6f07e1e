use Rattle.cil_optionals.proofs.Common.{List, Placed, AreProviders, IsUpTo, IsInverse, IsReady}
use Rattle.cil_bind.proofs.AboutNamesLemmas.{after_places}
use Rattle.cil_optionals.proofs.told.tell_all.Given as goal

-- so many statements about names are gone over
abbrev pub invariant-loop-k : goal.invariant-loop-k
invariant-loop-k g l = record {
  providers : (all : List Placed) → IsReady l.policy l.joined.modules.items all → AreProviders all l.policy.rows.items (after_places 0 l.policy.name_places.items l.k) l.needs.items;
  up_to : (all : List Placed) → IsReady l.policy l.joined.modules.items all → IsUpTo all (after_places 0 l.policy.name_places.items l.k) l.listed;
  inverse : IsInverse l.listed;
}
