use Rattle.cil_lookup.proofs.Common.{◌≡◌, ◌<◌, ℕ, List, length, drop, Placed, inside, namespace_at, path_of, table_of, Knows, AreWithin}
use Rattle.cil_lookup.proofs.lookup.Lookup.inside.Given as goal

abbrev pub invariant-loop-i : goal.invariant-loop-i
invariant-loop-i g l = record {
  within : l.at < length l.self.namespaces;
  left : (names : List (List ℕ)) (policy : List Placed) → Knows l.self.namespaces l.self.declared.entries names policy → AreWithin names l.words
      → inside policy (table_of l.table) (namespace_at names l.self.namespaces l.fn.namespace) (path_of names l.words l.path)
      ≡ inside policy (table_of l.table) (namespace_at names l.self.namespaces l.at) (path_of names l.words (drop l.i l.path));
}
