-- The permissions of classes.
use Rattle.std.specs.Prelude.{◌≡◌, ℕ, Bool, List, bytes_eq, slice_get, Some}
use Rattle.std.specs.List.{list_any}
use Rattle.cil_specs.specs.Joined.{Placed}
use Rattle.cil_specs.specs.Lookup.{classes, permissions_of}
use Rattle.cil_bind.specs.Lookup.{IsFirstOf}

-- which permissions a class has, by the place of its statement
abbrev pub SeenPermissions : Type 0
SeenPermissions = ℕ → List ℕ → Bool

-- each class of a policy has its permissions
abbrev pub HavePermissions : List Placed → SeenPermissions → Type 0
HavePermissions policy seen = (i : ℕ) (s : Placed) (name : List ℕ) → slice_get policy i ≡ Some s → IsFirstOf classes policy i → seen i name ≡ list_any (bytes_eq name) (permissions_of policy s)
