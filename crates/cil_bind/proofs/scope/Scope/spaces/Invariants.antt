use Rattle.cil_bind.proofs.Common.{◌≡◌, ◌<◌, ℕ, List, [], Some, get_or, take, length, Module, joined, AreSpelt, IsSpaced, NamedModule}
use Rattle.std.proofs.Common.{slice_get}
use Rattle.cil_bind.proofs.scope.Scope.spaces.Given as goal

-- the namespaces of so many modules came
abbrev pub invariant-loop-i : goal.invariant-loop-i
invariant-loop-i g l = record {
  closed : l.spaces.1 ≡ [];
  long : length l.spaces.0 ≡ l.i;
  starts : (modules : List Module) → AreSpelt l.joined.modules.items modules → l.start ≡ length (joined (take l.i modules));
  spaced : (k : ℕ) (m : NamedModule g.row.A.Denot) → k < l.i → slice_get l.joined.modules.items k ≡ Some m
      → IsSpaced l.self.names l.self.namespaces m.«module».now (get_or l.spaces.0 k []);
}
