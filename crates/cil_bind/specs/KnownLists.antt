-- The lists of permissions that classes are known to have.
use Rattle.std.specs.Prelude.{◌≡◌, ℕ, ◌==◌, ◌&&◌, Bool, true, false, List, [], Option, Some, None, slice_get, slice_index_or}
use Rattle.cil_parse.specs.Parsed.{permission_lists_of}
use Rattle.cil_bind.specs.declared.joined.NamedModule.{NamedModule}
use Rattle.cil_bind.specs.declared.known_lists.KnownLists.{KnownLists}

-- the lists of a module, if there is one
abbrev pub lists_in : {A : Type 0} → Option (NamedModule A) → List (List (List ℕ))
lists_in None = []
lists_in (Some m) = permission_lists_of m.«module».now

-- the texts of a list, by the number of its module and its own
abbrev pub texts_listed : {A : Type 0} → List (NamedModule A) → ℕ → ℕ → List (List ℕ)
texts_listed modules number list = slice_index_or (lists_in (slice_get modules number)) list []

-- whether a number is the one that was found
abbrev pub is_number : Option ℕ → ℕ → Bool
is_number None number = false
is_number (Some found) number = found == number

-- whether a class is known to have a list, by the number of its module and its own
abbrev pub is_known : {A : Type 0} → KnownLists A → ℕ → ℕ → ℕ → Bool
is_known known number list class_place = is_number known.«module» number && is_number (slice_index_or known.last.items list None) class_place

-- what is known holds of the module, the list and the class
abbrev pub AreKnown : {A : Type 0} → (ℕ → ℕ → ℕ → Bool) → KnownLists A → Type 0
AreKnown holds known = (number list class_place : ℕ) → is_known known number list class_place ≡ true → holds number list class_place ≡ true
