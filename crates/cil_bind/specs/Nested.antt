-- Optionals around statements, by numbers. The number of an optional is its place and 1 more; 0 stands for none.
use Rattle.std.specs.Prelude.{◌≡◌, ◌<◌, ℕ, zero, suc, List, [], ◌∷◌, slice_get, Some, IsTrue}
use Rattle.cil_specs.specs.Statements.{is_optional}
use Rattle.cil_specs.specs.Joined.{Placed}
use Rattle.cil_bind.specs.declared.rows.Row.{Row}

-- The number is that of the innermost optional around a statement at a place, which comes before it.
abbrev pub IsInnermost : List Placed → ℕ → ℕ → Placed → Type 0
IsInnermost policy i zero s = s.optionals ≡ []
IsInnermost policy i (suc k) s = (outer : Placed) × (k < i) × (slice_get policy k ≡ Some outer) × IsTrue (is_optional outer.form) × (outer.module_name ≡ s.module_name)
    × (s.optionals ≡ outer.at.offset ∷ outer.optionals)

-- Each row has the number of the innermost optional around its statement, and no two optionals of a module stand at one offset.
pub record AreNested (rows : List Row) (policy : List Placed) : Type 0 where
  pub around : (i : ℕ) (row : Row) (s : Placed) → slice_get rows i ≡ Some row → slice_get policy i ≡ Some s → IsInnermost policy i row.optional s
  pub told : (i j : ℕ) (s t : Placed) → slice_get policy i ≡ Some s → slice_get policy j ≡ Some t → IsTrue (is_optional s.form) → IsTrue (is_optional t.form)
      → s.module_name ≡ t.module_name → s.at.offset ≡ t.at.offset → i ≡ j
