use Rattle.cil_bind.proofs.Common.{kinds_told, ◌≡◌, ◌++◌, List, ℕ, [], take, Module, joined, StandsFor, AreSpelt, AreFrom, AreAround}
use Rattle.cil_bind.proofs.scope.Scope.add_all.Given as goal

-- so many modules came
abbrev pub invariant-loop-i : goal.invariant-loop-i
invariant-loop-i g l = record {
  stands : (modules : List Module) → AreSpelt l.joined.modules.items modules → StandsFor l.fn.self [] → StandsFor l.self (joined (take l.i modules));
  from : (modules : List Module) → AreSpelt l.joined.modules.items modules → AreFrom l.joined.modules.items l.self.rows.items (joined (take l.i modules));
  around : (modules : List Module) → AreSpelt l.joined.modules.items modules → AreAround (joined modules) 0 l.self.rows.items (joined (take l.i modules));
  kinds : l.fn.self.kinds.items ≡ kinds_told l.fn.self.rows.items → l.self.kinds.items ≡ kinds_told l.self.rows.items;
  kept : (more : List (List ℕ)) × (l.self.names ≡ l.fn.self.names ++ more);
}
