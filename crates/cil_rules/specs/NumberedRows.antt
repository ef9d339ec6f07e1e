-- Rows by numbers, and rows of the code.
use Rattle.std.specs.Prelude.{ℕ, ◌<◌, ◌≤◌, List, length, map, slice_range}
use Rattle.std.specs.List.{All}
use Rattle.cil_specs.specs.Report as spec
use Rattle.cil_specs.specs.Report.{row_line}
use Rattle.cil_text.specs.Image.{rule_kind_of}
use Rattle.cil_accesses.specs.declared.access.AccessNumbers.{AccessNumbers}
use Rattle.cil_rules.specs.declared.row.Row.{Row}
use Rattle.cil_rules.specs.declared.rows.RowNumbers.{RowNumbers}
use Rattle.cil_rules.specs.Atoms.{name_at}

-- the row that a row of the code stands for
abbrev pub row_of : {A : Type 0} → Row A → spec.Row
row_of r = record { kind = rule_kind_of r.kind; source = r.source.now; target = r.target.now; the_class = r.class.now; permissions = r.permissions }

-- the row of an access, whose permissions stand from one place up to another
abbrev pub numbered_row : AccessNumbers → ℕ → ℕ → RowNumbers
numbered_row a start end = record { kind = a.kind; source = a.source; target = a.target; class = a.class; start = start; end = end }

-- the row by the names at its numbers
abbrev pub row_by : List (List ℕ) → List ℕ → RowNumbers → spec.Row
row_by names permissions r = record {
  kind = rule_kind_of r.kind;
  source = name_at names r.source;
  target = name_at names r.target;
  the_class = name_at names r.class;
  permissions = map (name_at names) (slice_range permissions r.start r.end);
}

-- and its line
abbrev pub line_by : List (List ℕ) → List ℕ → RowNumbers → List ℕ
line_by names permissions r = row_line (row_by names permissions r)

-- the numbers of a row are places of names, and its range is one of the permissions
pub record IsNumberedRow (names permissions : ℕ) (r : RowNumbers) : Type 0 where
  pub source : r.source < names
  pub target : r.target < names
  pub the_class : r.class < names
  pub start : r.start ≤ r.end
  pub end : r.end ≤ permissions

pub record AreNumberedRows (names : List (List ℕ)) (permissions : List ℕ) (rows : List RowNumbers) : Type 0 where
  pub each : All (IsNumberedRow (length names) (length permissions)) rows
  pub within : All (λ n. n < length names) permissions
