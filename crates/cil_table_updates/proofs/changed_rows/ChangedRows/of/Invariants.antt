use Rattle.std.proofs.Common.{◌≡◌, ◌<◌, ◌==◌, ℕ, length, take}
use Rattle.std.specs.List.{list_any}
use Rattle.cil_table_updates.specs.Changed.{is_marked}
use Rattle.cil_table_updates.proofs.changed_rows.ChangedRows.of.Given as goal

-- the rows of the changes so far are marked
abbrev pub invariant-loop-change : goal.invariant-loop-change
invariant-loop-change g l = record {
  long : length l.marks.items ≡ l.symbols;
  marked : (a : ℕ) → a < l.symbols → is_marked l.marks.items a ≡ list_any (λ change. change.line == a) (take l.change-index l.change-items);
}
