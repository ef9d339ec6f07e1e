use Rattle.cil_violations.proofs.Common.{◌≡◌, ℕ, List, ◌∷◌, Option, cond, length, take, AreChains, gives_class}
use Rattle.cil_violations.proofs.IndexLemmas.{IsLast}
use Rattle.cil_violations.proofs.index.ClassIndex.put_head.Given as goal

abbrev pub invariant-loop-permission : goal.invariant-loop-permission
invariant-loop-permission g l = record {
  last : IsLast l.permissions l.permission-index l.last;
  classes : (f : ℕ → List ℕ) → AreChains f l.fn.self.first.items l.fn.self.links.items
      → AreChains (λ c. cond (gives_class (take l.permission-index l.permissions) c) (l.place ∷ f c) (f c)) l.self.first.items l.self.links.items;
  sets : (f : ℕ → List ℕ) (others : List (Option ℕ)) → AreChains f others l.fn.self.links.items → AreChains f others l.self.links.items;
  same : l.self.of_set.items ≡ l.fn.self.of_set.items;
  len : length l.self.first.items ≡ length l.fn.self.first.items;
}
