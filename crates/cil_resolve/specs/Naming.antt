-- The statements that say what names stand for.
use Rattle.std.specs.Prelude.{◌≡◌, ℕ, Bool, true, false, List, map, slice_get, Some, IsTrue}
use Rattle.std.specs.List.{filter}
use Rattle.cil_specs.specs.Joined.{Placed}
use Rattle.cil_parse.specs.Forms.{kind_of}
use Rattle.cil_parse.specs.declared.row.StatementKind.{StatementKind}
use Rattle.cil_parse.specs.declared.row.StatementKind.TheVariants as kinds

-- whether statements of a kind declare a type, an alias, an attribute, a common, a class or a permission set, or say what a permission set
-- has
abbrev pub is_naming : StatementKind → Bool
is_naming kinds.TypeName = true
is_naming kinds.TypeAlias = true
is_naming kinds.TypeAttribute = true
is_naming kinds.Common = true
is_naming kinds.Class = true
is_naming kinds.ClassPermission = true
is_naming kinds.ClassPermissionSet = true
is_naming _ = false

-- those of a policy
abbrev pub naming : List Placed → List Placed
naming policy = filter (λ s. is_naming (kind_of s.form)) policy

-- the places are theirs, in their order
pub record AreNaming (policy : List Placed) (places : List ℕ) : Type 0 where
  pub are : map (slice_get policy) places ≡ map Some (naming policy)
  pub each : (i : ℕ) (s : Placed) → slice_get policy i ≡ Some s → IsTrue (is_naming (kind_of s.form)) → (j : ℕ) × (slice_get places j ≡ Some i)
