-- What the references of statements without faults are bound to.
use Rattle.std.specs.Prelude.{◌≡◌, ◌<◌, ℕ, Bool, true, false, not, ◌||◌, List, [], Option, Some, None, is_some, length, slice_get}
use Rattle.std.specs.List.{list_all}
use Rattle.cil_parse.specs.declared.row.StatementKind.{StatementKind}
use Rattle.cil_check.specs.declared.kinds.Kind.TheVariants.{Alias}
use Rattle.cil_specs.specs.Joined.{Placed}
use Rattle.cil_specs.specs.Names.{Word}
use Rattle.cil_specs.specs.Lookup.{Table, types}
use Rattle.cil_specs.specs.PolicyFault.{alias_unset_words, missing_words, is_unfound, is_unset}
use Rattle.cil_check.specs.Associations.{first_at}
use Rattle.cil_check.specs.Kinds.{is_kind}

-- whether the statement of a place is no alias, or is one that has an actual type
abbrev pub is_sound_at : List (ℕ × ℕ) → ℕ → Option StatementKind → Bool
is_sound_at actuals place None = false
is_sound_at actuals place (Some kind) = not (is_kind Alias kind) || is_some (first_at actuals place)

-- whether a reference is bound, and not to an alias without an actual type, by the kinds of the statements
abbrev pub is_sound : List StatementKind → List (ℕ × ℕ) → Option ℕ → Bool
is_sound kinds actuals None = false
is_sound kinds actuals (Some place) = is_sound_at actuals place (slice_get kinds place)

-- whether the statement of a place is no alias
abbrev pub is_other : Option StatementKind → Bool
is_other None = false
is_other (Some kind) = not (is_kind Alias kind)

-- whether all of some references are
abbrev pub are_sound : List StatementKind → List (ℕ × ℕ) → List (Option ℕ) → Bool
are_sound kinds actuals bound = list_all (is_sound kinds actuals) bound

-- no statement is an alias without an actual type
abbrev pub HaveActuals : List StatementKind → List (ℕ × ℕ) → Type 0
HaveActuals kinds actuals = (place : ℕ) → place < length kinds → is_sound kinds actuals (Some place) ≡ true

-- all names of a statement are found, and no element of it is an alias without an actual type
pub record IsSettled (policy : List Placed) (s : Placed) : Type 0 where
  pub found : missing_words policy s ≡ []
  pub actual : alias_unset_words policy s ≡ []

-- a reference leads somewhere, and not to an alias without an actual type
pub record IsSound (policy : List Placed) (namespace : List (List ℕ)) (r : Table × Word) : Type 0 where
  pub found : is_unfound policy namespace r ≡ false
  pub actual : r.0 ≡ types → is_unset policy namespace r.1 ≡ false
