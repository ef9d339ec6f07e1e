use Rattle.cil_bind.proofs.Common.{◌≡◌, ◌<◌, ℕ, Some, get_or, length, citations_of, Citation, IsBlockSpace}
use Rattle.std.proofs.Common.{slice_get}
use Rattle.cil_bind.proofs.scope.Scope.add_spaces.Given as goal

-- the namespaces of so much came
abbrev pub invariant-loop-citation : goal.invariant-loop-citation
invariant-loop-citation g l = record {
  closed : l.spaces.0 ≡ l.fn.spaces.0;
  long : length l.spaces.1 ≡ l.citation-index;
  spaced : (k : ℕ) (c : Citation) → k < l.citation-index → slice_get (citations_of l.«module») k ≡ Some c
      → IsBlockSpace l.self.rows.items (length l.self.namespaces) l.start c.block (get_or l.spaces.1 k 0);
}
