use Rattle.cil_check.proofs.Common.{◌≡◌, List, length, Placed, IsOf}
use Rattle.cil_bind.proofs.AboutNamesLemmas.{after_places}
use Rattle.cil_check.proofs.NoteLemmas.{IsNotedTo}
use Rattle.cil_check.proofs.checker.Checker.note_given.Given as goal

-- what so many statements give is noted, and else nothing changed
abbrev pub invariant-loop-k : goal.invariant-loop-k
invariant-loop-k g l = record {
  bound : l.self.bound ≡ l.initial.self.bound;
  permissions : l.self.permissions ≡ l.initial.self.permissions;
  same : length l.self.inherited.0 ≡ length l.self.inherited.1;
  noted : (policy : List Placed) → IsOf l.self.bound policy → IsNotedTo policy l.self.actuals l.self.commons l.self.inherited (after_places 0 l.places l.k);
}
