-- The names of a policy, and their numbers.
use Rattle.std.specs.Prelude.{◌≡◌, ℕ, List, [], ◌∷◌, ◌++◌, map, flat_map, slice_get, slice_index_or, bytes_eq, Option, Some, IsTrue, if◌then◌else◌}
use Rattle.std.specs.List.{position}
use Rattle.cil_specs.specs.Joined.{Placed}
use Rattle.cil_specs.specs.Lookup.{has_name, texts, own_permissions}
use Rattle.cil_resolve.specs.FullNames.{is_numbered, full_name_of}

-- the names that a statement brings: the full name of a type, an attribute, a class or a permission set, and the names of permissions
abbrev pub names_with : Placed → List (List ℕ)
names_with s = (if is_numbered s.form then full_name_of s ∷ [] else []) ++ texts (own_permissions s.form)

abbrev pub names_of : List Placed → List (List ℕ)
names_of policy = flat_map names_with policy

-- the names are those of a policy
abbrev pub AreNamesOf : List Placed → List (List ℕ) → Type 0
AreNamesOf policy names = (name : List ℕ) → has_name names name ≡ has_name (names_of policy) name

-- the names of the permissions that statements list
abbrev pub listed_names : List Placed → List (List ℕ)
listed_names policy = flat_map (λ s. texts (own_permissions s.form)) policy

-- the number of a name: its place among the names
abbrev pub number_in : List (List ℕ) → List ℕ → Option ℕ
number_in names name = position (bytes_eq name) names

-- each number is that of a name
abbrev pub AreNumbersIn : List (List ℕ) → List (List ℕ) → List ℕ → Type 0
AreNumbersIn names some numbers = map Some numbers ≡ map (number_in names) some

-- For each statement that declares a type, an attribute, a class or a permission set, the number of its full name stands at its place.
abbrev pub HavePlaces : List (List ℕ) → List Placed → List ℕ → Type 0
HavePlaces names policy places = (i : ℕ) (s : Placed) → slice_get policy i ≡ Some s → IsTrue (is_numbered s.form) → number_in names (full_name_of s) ≡ Some (slice_index_or places i 0)

-- For each of some names of permissions, its number stands at the number that its word has in the policy's numbering.
abbrev pub HavePermissionsOf : List (List ℕ) → List (List ℕ) → List (List ℕ) → List ℕ → Type 0
HavePermissionsOf words names some permissions = (n : ℕ) (name : List ℕ) → slice_get words n ≡ Some name → IsTrue (has_name some name) → number_in names name ≡ Some (slice_index_or permissions n 0)

-- the same of all permissions that statements list
abbrev pub HavePermissions : List (List ℕ) → List (List ℕ) → List Placed → List ℕ → Type 0
HavePermissions words names policy permissions = HavePermissionsOf words names (listed_names policy) permissions
