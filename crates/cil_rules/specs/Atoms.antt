-- Accesses by full names and by numbers, as the definitions see them.
use Rattle.std.specs.Prelude.{ℕ, List, [], slice_index_or, length, IsTrue}
use Rattle.std.specs.List.{All}
use Rattle.std.specs.List.Sorted.{IsStrictlySortedBy}
use Rattle.cil_specs.specs.Rule as spec
use Rattle.cil_specs.specs.Report.{names_rise}
use Rattle.cil_text.specs.Image.{rule_kind_of}
use Rattle.cil_accesses.specs.declared.access.AccessNumbers.{AccessNumbers}
use Rattle.cil_accesses.specs.Chunks.{numbers_cmp}
use Rattle.cil_accesses.specs.Renumbered.{IsWithin}
use Rattle.cil_rules.specs.declared.atom.Atom.{Atom}

-- the access that an access of the code stands for
abbrev pub atom_of : Atom → spec.Atom
atom_of a = record { kind = rule_kind_of a.kind; source = a.source.now; target = a.target.now; the_class = a.class.now; permission = a.permission.now }

-- the name at a number
abbrev pub name_at : List (List ℕ) → ℕ → List ℕ
name_at names n = slice_index_or names n []

-- the access by the names at its numbers
abbrev pub atom_at : List (List ℕ) → AccessNumbers → spec.Atom
atom_at names a = record {
  kind = rule_kind_of a.kind;
  source = name_at names a.source;
  target = name_at names a.target;
  the_class = name_at names a.class;
  permission = name_at names a.permission;
}

-- the names ascend, and the accesses by their numbers, which are places of names
pub record AreNumbered (names : List (List ℕ)) (atoms : List AccessNumbers) : Type 0 where
  pub names_ordered : IsTrue (names_rise names)
  pub ordered : IsStrictlySortedBy numbers_cmp atoms
  pub within : All (IsWithin (length names)) atoms
