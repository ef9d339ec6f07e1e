use Rattle.std.proofs.Common.{◌≡◌, ◌-◌, ◌++◌, length, flat_map}
use Rattle.std.specs.Prelude.{All}
use Rattle.cil_violations.specs.Known.{AreClasses}
use Rattle.cil_violations.specs.Rows.{AreMetBySet, hits, tests_of, rules_in, pair_rows, all_rows}
use Rattle.cil_violations.proofs.search.Search.push_all.Given as goal

abbrev pub invariant-loop-never : goal.invariant-loop-never
invariant-loop-never g l = record {
  shared : All (AreClasses l.self) l.known.lists.items;
  known : AreMetBySet l.self l.met.set l.met.rules.items;
  so_far : l.rows.items ++ flat_map (pair_rows (tests_of l.self) (length (rules_in l.self)) (length l.self.resolved.now.names.items)) (hits (tests_of l.self).never l.never (length (rules_in l.self) - l.never))
      ≡ l.fn.rows.items ++ all_rows (tests_of l.self) (length (rules_in l.self)) (length l.self.resolved.now.names.items);
}
