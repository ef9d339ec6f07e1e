use Rattle.std.proofs.Common.{◌≡◌, ◌++◌, take}
use Rattle.cil_rules.proofs.NumberedRowLemmas.{permissions_at}
use Rattle.cil_rules.proofs.rows.push_permissions.Given as goal

abbrev pub invariant-loop-chunk : goal.invariant-loop-chunk
invariant-loop-chunk g l = l.permissions.items ≡ l.fn.permissions.items ++ permissions_at l.bit (take l.chunk-index l.chunks)
