use Rattle.std.proofs.Common.{◌≡◌, ◌++◌, flat_map, take}
use Rattle.cil_violations.specs.Rows.{rows_at}
use Rattle.cil_violations.proofs.search.push_rows.Given as goal

-- those of the targets so far stand behind
abbrev pub invariant-loop-target : goal.invariant-loop-target
invariant-loop-target g l = l.rows.items ≡ l.fn.rows.items
    ++ flat_map (rows_at l.pair.never l.pair.allowed l.pair.classes.now l.source) (take l.target-index l.targets)
