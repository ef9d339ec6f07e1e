use Rattle.std.proofs.Common.{IfSome, ◌<◌, length}
use Rattle.cil_matching.proofs.Common.{IsSameRule, rule_cmp, meaning_in, ArePlaces, AreBefore}
use Rattle.cil_matching.specs.Compared.{AreCompared}
use Rattle.cil_matching.specs.Paired.{AreSameUntil}
use Rattle.cil_matching.proofs.rule_places.rule_places.Given as goal

-- so many have their places, and so many of the new ones stand before the next; the rules up to a place are known to be the same as those from there on
abbrev pub invariant-loop-i : goal.invariant-loop-i
invariant-loop-i g l = record {
  known_are : IfSome l.known (AreCompared l.old l.new);
  places_are : ArePlaces IsSameRule (meaning_in l.old).rules (meaning_in l.new).rules l.i l.places.items;
  before : AreBefore rule_cmp (meaning_in l.old).rules (meaning_in l.new).rules l.i l.from;
  same : AreSameUntil IsSameRule (meaning_in l.old).rules (meaning_in l.new).rules l.i l.from l.until;
  room : l.i < l.until → l.from < length (meaning_in l.new).rules;
}
