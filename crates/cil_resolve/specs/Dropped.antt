-- Optionals that drop: their marks, and how they are found.
use Rattle.std.specs.Prelude.{◌≡◌, ℕ, ◌+◌, Bool, false, not, ◌&&◌, List, [], ◌∷◌, length, map, slice_get, slice_index_or, Some, IsTrue, if◌then◌else◌}
use Rattle.std.specs.List.{flat_map}
use Rattle.cil_specs.specs.Place.{Place}
use Rattle.cil_specs.specs.Statements.{is_optional}
use Rattle.cil_specs.specs.Joined.{Placed}
use Rattle.cil_specs.specs.Lookup.{scopes}
use Rattle.cil_specs.specs.Rule.{Declared, declared_as}
use Rattle.cil_specs.specs.Kept.{Optionals}
use Rattle.cil_text.specs.Image.{place_of}
use Rattle.cil_resolve.specs.declared.dropped.Found.{Found}
use Rattle.cil_resolve.specs.declared.dropped.FoundOptional.{FoundOptional}

-- the mark of the optional of a place
abbrev pub mark_of : List Bool → ℕ → Bool
mark_of kept i = slice_index_or kept (i + 1) false

-- Each optional of a policy is marked where it is in the set.
abbrev pub HaveMarks : Optionals → List Bool → List Placed → Type 0
HaveMarks set kept policy = (i : ℕ) (s : Placed) → slice_get policy i ≡ Some s → IsTrue (is_optional s.form) → mark_of kept i ≡ set s.module_name s.at.offset

-- the declaration of a statement, if it is an optional that isn't kept
abbrev pub dropped_unless : Bool → Placed → List Declared
dropped_unless kept s = if is_optional s.form && not kept then declared_as scopes s ∷ [] else []

-- the declaration of a statement, if it is an optional that isn't in the set
abbrev pub dropped_if : Optionals → Placed → List Declared
dropped_if set s = dropped_unless (set s.module_name s.at.offset) s

-- where an optional is declared, and how many bytes its full name has
abbrev pub found_with : List (List ℕ) → FoundOptional → List ℕ × (Place × ℕ)
found_with modules o = (slice_index_or modules o.module [], (place_of o.at, o.name_length))

-- the same of a declaration
abbrev pub found_as : Declared → List ℕ × (Place × ℕ)
found_as d = (d.module_name, (d.at, length d.name))

-- Optionals are found, with the bytes of their full names.
pub record AreFound {A : Type 0} (modules : List (List ℕ)) (found : Found A) (declared : List Declared) : Type 0 where
  pub optionals : map (found_with modules) found.optionals.items ≡ map found_as declared
  pub names : found.names.items ≡ flat_map (λ d. d.name) declared
