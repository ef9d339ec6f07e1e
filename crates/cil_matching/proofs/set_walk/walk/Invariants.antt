use Rattle.std.proofs.Common.{IfSome, ◌<◌, ◌≤◌, length}
use Rattle.cil_matching.proofs.Common.{IsSameSet, sets_in, AreRight}
use Rattle.cil_matching.specs.Compared.{AreCompared}
use Rattle.cil_matching.specs.Paired.{AreSameUntil}
use Rattle.cil_matching.proofs.set_walk.walk.Given as goal

-- so many places are right, and the statements up to one are known to be the same as those from another one on
abbrev pub invariant-loop-i : goal.invariant-loop-i
invariant-loop-i g l = record {
  known_are : IfSome l.known (AreCompared l.old l.new);
  places_are : AreRight IsSameSet (sets_in l.old) (sets_in l.new) l.i l.places.items;
  same : AreSameUntil IsSameSet (sets_in l.old) (sets_in l.new) l.i l.next l.until;
  few : l.i < l.until → length (sets_in l.new) ≤ 18446744073709551615;
  room : l.i < l.until → l.next < 18446744073709551615;
}
