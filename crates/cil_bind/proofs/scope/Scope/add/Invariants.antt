use Rattle.cil_bind.proofs.Common.{kinds_told, ◌≡◌, ◌++◌, List, ℕ, [], length, take, Statements, Placed, placed, Spells, StandsFor, AreFrom, AreAround, HaveModule, NamedModule}
use Rattle.cil_bind.proofs.scope.Scope.add.Given as goal

-- so many statements of the module came
abbrev pub invariant-loop-i : goal.invariant-loop-i
invariant-loop-i g l = record {
  stands : (before : List Placed) (name : List ℕ) (statements : Statements) → Spells l.«module» statements → length before ≡ l.start → StandsFor l.fn.self before
      → StandsFor l.self (before ++ take l.i (placed name [] [] statements));
  from : (parsed : List (NamedModule g.row.A.Denot)) (before : List Placed) (name : List ℕ) (statements : Statements) → Spells l.«module» statements → HaveModule parsed l.number l.«module» name
      → AreFrom parsed l.fn.self.rows.items before → AreFrom parsed l.self.rows.items (before ++ take l.i (placed name [] [] statements));
  around : (before behind : List Placed) (name : List ℕ) (statements : Statements) → Spells l.«module» statements → length before ≡ l.start
      → AreAround (before ++ (placed name [] [] statements ++ behind)) 0 l.fn.self.rows.items before
      → AreAround (before ++ (placed name [] [] statements ++ behind)) 0 l.self.rows.items (before ++ take l.i (placed name [] [] statements));
  kinds : l.fn.self.kinds.items ≡ kinds_told l.fn.self.rows.items → l.self.kinds.items ≡ kinds_told l.self.rows.items;
  kept : (more : List (List ℕ)) × (l.self.names ≡ l.fn.self.names ++ more);
}
