use Rattle.cil_resolve.proofs.Common.{◌≡◌, ◌<◌, [], ℕ, List, length, get_or, Placed, IsLowering, list_at, HaveNumbers}
use Rattle.cil_resolve.proofs.lowering.Lowering.module_lists.Given as goal

-- the numbers of so many lists came
abbrev pub invariant-loop-n : goal.invariant-loop-n
invariant-loop-n g l = record {
  closed : l.numbers.1 ≡ [];
  long : length l.numbers.0 ≡ l.n;
  came : (k : ℕ) → k < l.n → (policy : List Placed) → IsLowering l.self policy
      → HaveNumbers l.self.numbering.now.names.items policy (list_at l.self.checker.now.bound.joined.now l.m k) (get_or l.numbers.0 k []);
}
