use Rattle.std.proofs.Common.{◌≡◌, ◌++◌, flat_map, take}
use Rattle.std.specs.Prelude.{All}
use Rattle.cil_violations.proofs.Common.{AreClasses, names_in, source_rows, tests_of}
use Rattle.cil_violations.proofs.search.Search.push_pairs.Given as goal

-- those of the allow rules so far stand behind
abbrev pub invariant-loop-allowed : goal.invariant-loop-allowed
invariant-loop-allowed g l = record {
  rows : l.rows.items ≡ l.fn.rows.items
      ++ flat_map (source_rows (tests_of l.self) (names_in l.self) l.never) (take l.allowed-index l.met);
  known : All (AreClasses l.self) l.known.lists.items;
}
