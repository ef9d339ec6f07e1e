use Rattle.std.proofs.Common.{◌≡◌, ◌++◌, take}
use Rattle.cil_violations.specs.Rows.{rows_at}
use Rattle.cil_violations.proofs.search.push_classes.Given as goal

-- those of the classes so far stand behind
abbrev pub invariant-loop-class : goal.invariant-loop-class
invariant-loop-class g l = l.rows.items ≡ l.fn.rows.items
    ++ rows_at l.pair.never l.pair.allowed (take l.class-index l.pair.classes.now) l.source l.target
