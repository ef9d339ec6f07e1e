use Rattle.cil_lookup.proofs.Common.{◌≡◌, ◌<◌, ℕ, List, length, Placed, nearest_block, word_at, namespace_at, Knows}
use Rattle.cil_lookup.proofs.lookup.Lookup.nearest_block.Given as goal

abbrev pub invariant-loop-found : goal.invariant-loop-found
invariant-loop-found g l = record {
  within : l.at < length l.self.namespaces;
  left : (names : List (List ℕ)) (policy : List Placed) → Knows l.self.namespaces l.self.declared.entries names policy → l.word < length names
      → nearest_block policy (namespace_at names l.self.namespaces l.fn.namespace) (word_at names l.word) ≡ nearest_block policy (namespace_at names l.self.namespaces l.at) (word_at names l.word);
}

abbrev pub decreases-loop-found : goal.decreases-loop-found
decreases-loop-found g l = l.at
