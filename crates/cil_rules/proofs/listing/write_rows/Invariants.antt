use Rattle.cil_rules.proofs.Common.{◌≡◌, ◌≤◌, ◌+◌, ◌++◌, ℕ, List, length, map, All, flat_map, row_line, Gains, IsWithin, atom_at, rows_of}
use Rattle.cil_rules.proofs.listing.write_rows.Given as goal

abbrev pub invariant-loop-row : goal.invariant-loop-row
invariant-loop-row g l = record {
  counted : g.W.Sink.failures l.fn.sink ≤ g.W.Sink.failures l.sink;
  within : All (IsWithin (length l.names)) l.rows;
  bounded : l.count + length l.rows ≤ length l.accesses;
  rows : l.count + length (rows_of (map (atom_at l.names) l.rows)) ≡ length (rows_of (map (atom_at l.names) l.accesses));
  text : List ℕ;
  whole : text ++ flat_map row_line (rows_of (map (atom_at l.names) l.rows)) ≡ flat_map row_line (rows_of (map (atom_at l.names) l.accesses));
  so_far : Gains (g.W.Sink.taken l.fn.sink) (g.W.Sink.taken l.sink) text;
}

abbrev pub decreases-loop-row : goal.decreases-loop-row
decreases-loop-row g l = length l.rows
