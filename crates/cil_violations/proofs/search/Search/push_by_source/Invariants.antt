use Rattle.std.proofs.Common.{◌≡◌, ◌++◌, flat_map, take}
use Rattle.cil_violations.specs.Rows.{names_in, sources_of, target_rows, tests_of}
use Rattle.cil_violations.proofs.search.Search.push_by_source.Given as goal

-- those of the sources so far stand behind
abbrev pub invariant-loop-source : goal.invariant-loop-source
invariant-loop-source g l =
    l.rows.items ≡ l.fn.rows.items
    ++ flat_map (target_rows (tests_of l.self) (names_in l.self) l.pair.never l.pair.allowed)
    (take l.source-index (sources_of l.self l.pair.never l.pair.allowed))
