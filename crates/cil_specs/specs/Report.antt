-- Orders of names and accesses, the changes between two tables, and the listing.
use Rattle.std.specs.Prelude.{◌≡◌, ◌≢◌, ◌↔◌, ℕ, Bool, true, false, not, ◌&&◌, List, [], ◌∷◌, ◌++◌, flat_map, codes, decimal, IsTrue, Contains, Any}
use Rattle.std.specs.List.{AllByRecursion}
use Rattle.std.specs.List.Sorted.{IsStrictlySortedBy}
use Rattle.std.specs.Ordering.{nat_cmp, is_lt, on, then_cmp}
use Rattle.std.specs.declared.cmp.Ordering.{Ordering}
use Rattle.std.specs.Cmp.Lexicographic.{slice_cmp}
use Rattle.cil_specs.specs.Statements.{RuleKind, allow, auditallow, dontaudit, neverallow, rule_word}
use Rattle.cil_specs.specs.Rule.{Atom, Declared, kind_index}

-- names by their bytes
abbrev pub name_cmp : List ℕ → List ℕ → Ordering
name_cmp = slice_cmp nat_cmp

-- accesses by kind, source, target, class and permission
abbrev pub atom_cmp : Atom → Atom → Ordering
atom_cmp = then_cmp (on (λ a. kind_index a.kind) nat_cmp) (then_cmp (on (λ a. a.source) name_cmp) (then_cmp (on (λ a. a.target) name_cmp)
    (then_cmp (on (λ a. a.the_class) name_cmp) (on (λ a. a.permission) name_cmp))))

-- the accesses that pass a test, in order, each once
pub record AreAtoms (test : Atom → Bool) (atoms : List Atom) : Type 0 where
  pub ordered : IsStrictlySortedBy atom_cmp atoms
  pub exact : (a : Atom) → Contains atoms a ↔ IsTrue (test a)

-- what is in the new table and not in the old, and what is in the old and not in the new
pub record Changes : Type 0 where
  pub added : List Atom
  pub removed : List Atom

-- the changes from the accesses that pass one test to those that pass another
pub record AreChanges (old new : Atom → Bool) (changes : Changes) : Type 0 where
  pub added : AreAtoms (λ a. new a && not (old a)) changes.added
  pub removed : AreAtoms (λ a. old a && not (new a)) changes.removed

-- a row of the listing: all permissions of one kind, source, target and class
pub record Row : Type 0 where
  pub kind : RuleKind
  pub source : List ℕ
  pub target : List ℕ
  pub the_class : List ℕ
  pub permissions : List (List ℕ)

abbrev pub row_cmp : Row → Row → Ordering
row_cmp = then_cmp (on (λ r. kind_index r.kind) nat_cmp) (then_cmp (on (λ r. r.source) name_cmp) (then_cmp (on (λ r. r.target) name_cmp) (on (λ r. r.the_class) name_cmp)))

-- neverallow isn't part of the compiled policy
abbrev pub is_listed : RuleKind → Bool
is_listed allow = true
is_listed auditallow = true
is_listed dontaudit = true
is_listed neverallow = false

-- a row has permissions, in order, each once
pub record IsRow (row : Row) : Type 0 where
  pub listed : IsTrue (is_listed row.kind)
  pub some : row.permissions ≢ []
  pub ordered : IsStrictlySortedBy name_cmp row.permissions

-- the row has the access
pub record Has (row : Row) (a : Atom) : Type 0 where
  pub kind : row.kind ≡ a.kind
  pub source : row.source ≡ a.source
  pub target : row.target ≡ a.target
  pub the_class : row.the_class ≡ a.the_class
  pub permission : Contains row.permissions a.permission

-- The rows join the accesses that pass a test, but for those of neverallow, by kind, source, target and class.
pub record AreRows (test : Atom → Bool) (rows : List Row) : Type 0 where
  pub each : AllByRecursion IsRow rows
  pub ordered : IsStrictlySortedBy row_cmp rows
  pub exact : (a : Atom) → Any (λ r. Has r a) rows ↔ IsTrue (is_listed a.kind && test a)

-- the line of a row
abbrev pub row_line : Row → List ℕ
row_line r = rule_word r.kind ++ codes " " ++ r.source ++ codes " " ++ r.target ++ codes ":" ++ r.the_class ++ codes " { "
    ++ flat_map (λ p. p ++ codes " ") r.permissions ++ codes "};\n"

-- the line of an optional that drops
abbrev pub dropped_line : Declared → List ℕ
dropped_line d = d.module_name ++ codes ":" ++ decimal d.at.line ++ codes ":" ++ decimal d.at.column ++ codes " " ++ d.name ++ codes "\n"

-- whether names ascend strictly by their bytes
abbrev pub names_rise : List (List ℕ) → Bool
names_rise [] = true
names_rise (a ∷ []) = true
names_rise (a ∷ b ∷ names) = is_lt (name_cmp a b) && names_rise (b ∷ names)
