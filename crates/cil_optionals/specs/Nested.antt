-- Optionals around statements, by numbers. The number of an optional is its place and 1 more; 0 stands for none.
use Rattle.std.specs.Prelude.{◌≡◌, ℕ, suc, Bool, false, List, slice_get, slice_index_or, Option, Some, None, IsTrue}
use Rattle.std.specs.List.{position}
use Rattle.cil_specs.specs.Statements.{is_optional}
use Rattle.cil_specs.specs.Joined.{Placed}
use Rattle.cil_specs.specs.Kept.{Optionals, is_optional_at, AreKept}
use Rattle.cil_bind.specs.Policy.{AreMarked}
use Rattle.cil_bind.specs.declared.rows.Row.{Row}

abbrev pub mark_at : List Bool → Option ℕ → Bool
mark_at marks None = false
mark_at marks (Some k) = slice_index_or marks (suc k) false

-- the set of the optionals whose numbers are marked
abbrev pub set_of : List Placed → List Bool → Optionals
set_of policy marks name at = mark_at marks (position (is_optional_at name at) policy)

-- The optionals whose numbers are marked are those that a policy keeps, and a row's is marked where its statement stands in these alone.
pub record ShowsKept (policy : List Placed) (rows : List Row) (marks : List Bool) : Type 0 where
  pub set : Optionals
  pub are_kept : AreKept policy set
  pub marked : AreMarked set marks rows policy
  pub own : (k : ℕ) (s : Placed) → slice_get policy k ≡ Some s → IsTrue (is_optional s.form) → slice_index_or marks (suc k) false ≡ set s.module_name s.at.offset
