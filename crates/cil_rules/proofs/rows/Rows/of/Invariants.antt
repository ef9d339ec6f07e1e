use Rattle.cil_rules.proofs.Common.{◌≡◌, ◌++◌, length, map, All, IsWithin, atom_at, rows_of, row_by, AreNumberedRows}
use Rattle.cil_rules.proofs.rows.Rows.of.Given as goal

abbrev pub invariant-loop-row : goal.invariant-loop-row
invariant-loop-row g l = record {
  within : All (IsWithin (length l.fn.names)) l.left;
  are : AreNumberedRows l.fn.names l.permissions.items l.rows.items;
  so_far : map (row_by l.fn.names l.permissions.items) l.rows.items ++ rows_of (map (atom_at l.fn.names) l.left) ≡ rows_of (map (atom_at l.fn.names) l.accesses);
}

abbrev pub decreases-loop-row : goal.decreases-loop-row
decreases-loop-row g l = length l.left
