use Rattle.std.proofs.Common.{IfSome}
use Rattle.cil_matching.proofs.Common.{rule_cmp, meaning_in, AreBefore}
use Rattle.cil_matching.specs.Compared.{AreCompared}
use Rattle.cil_matching.proofs.rule_places.find_rule.Given as goal

-- so many stand before
abbrev pub invariant-loop-j : goal.invariant-loop-j
invariant-loop-j g l = record {
  known_are : IfSome l.known (AreCompared l.old l.new);
  before : AreBefore rule_cmp (meaning_in l.old).rules (meaning_in l.new).rules l.i l.j;
}
