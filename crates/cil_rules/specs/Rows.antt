-- Rows from accesses in order.
use Rattle.std.specs.Prelude.{ℕ, Bool, ◌&&◌, List, [], ◌∷◌, ◌++◌, codes, map, if◌then◌else◌}
use Rattle.std.specs.List.{filter}
use Rattle.std.specs.Ordering.{eq_by_cmp}
use Rattle.cil_specs.specs.Statements.{RuleKind, rule_word}
use Rattle.cil_specs.specs.Rule.{Atom}
use Rattle.cil_specs.specs.Report.{Row, row_cmp, is_listed}
use Rattle.cil_accesses.specs.declared.access.AccessNumbers.{AccessNumbers}
use Rattle.cil_accesses.specs.declared.chunk.Chunk.{Chunk}
use Rattle.cil_accesses.specs.View.{has_bit}
use Rattle.cil_rules.specs.Atoms.{atom_at, name_at}

-- of the accesses that pass a test, those that a listing has
abbrev pub listed : (Atom → Bool) → Atom → Bool
listed test a = is_listed a.kind && test a

-- the row of an access, with these permissions
abbrev pub row_with : Atom → List (List ℕ) → Row
row_with a permissions = record { kind = a.kind; source = a.source; target = a.target; the_class = a.the_class; permissions = permissions }

-- An access before the rows of those after it: it goes onto the first where that is its row.
abbrev pub put_first : Atom → List Row → List Row
put_first a [] = row_with a (a.permission ∷ []) ∷ []
put_first a (r ∷ rows) = if eq_by_cmp row_cmp (row_with a []) r then row_with a (a.permission ∷ r.permissions) ∷ rows else (row_with a (a.permission ∷ []) ∷ r ∷ rows)

-- the rows of accesses, where those of a row stand one behind the other
abbrev pub groups_of : List Atom → List Row
groups_of [] = []
groups_of (a ∷ atoms) = put_first a (groups_of atoms)

-- and those of them that are listed
abbrev pub rows_of : List Atom → List Row
rows_of atoms = filter (λ r. is_listed r.kind) (groups_of atoms)

-- the line of a row up to its permissions
abbrev pub row_head : RuleKind → List ℕ → List ℕ → List ℕ → List ℕ
row_head kind source target the_class = rule_word kind ++ codes " " ++ source ++ codes " " ++ target ++ codes ":" ++ the_class ++ codes " { "

-- the row of an access with the permissions of some
abbrev pub row_at : List (List ℕ) → AccessNumbers → List AccessNumbers → Row
row_at names first atoms = row_with (atom_at names first) (map (λ a. name_at names a.permission) atoms)

-- the text of a permission in the line of a row
abbrev pub name_text : List (List ℕ) → ℕ → List ℕ
name_text names n = name_at names n ++ codes " "

abbrev pub permission_text : List (List ℕ) → AccessNumbers → List ℕ
permission_text names a = name_text names a.permission

-- the text of the permission of a chunk, where it has a bit
abbrev pub chunk_text : List (List ℕ) → ℕ → Chunk → List ℕ
chunk_text names bit c = if has_bit bit c then name_text names c.permission else []
