-- What statements in optionals need.
use Rattle.std.specs.Prelude.{◌≡◌, ◌<◌, ℕ, ◌+◌, ◌==◌, Bool, true, not, ◌&&◌, ◌||◌, nat_lt, List, [], ◌∷◌, ◌++◌, length, slice_get, Option, Some, None}
use Rattle.std.specs.List.{list_all}
use Rattle.std.specs.Option.{option_to_list}
use Rattle.cil_specs.specs.Names.{Word}
use Rattle.cil_specs.specs.Joined.{Placed}
use Rattle.cil_specs.specs.Lookup.{Table}
use Rattle.cil_specs.specs.PolicyFault.{is_unfound, is_lacking}
use Rattle.cil_specs.specs.Kept.{Optionals}
use Rattle.cil_specs.specs.Statements.{Statements}
use Rattle.cil_parse.specs.Flat.{FlatStatement, flat}
use Rattle.cil_parse.specs.Parsed.{Spells, statement_count}
use Rattle.cil_parse.specs.declared.parsed.ParsedModule.{ParsedModule}
use Rattle.cil_bind.specs.declared.rows.Row.{Row}
use Rattle.cil_bind.specs.declared.policy.Policy.{Policy}
use Rattle.cil_needs.specs.Needs.{are_met, meeting}
use Rattle.cil_optionals.specs.Nodes.{AreNodesOf}
use Rattle.cil_needs.specs.declared.greatest.Need.{Need}

-- a need of a node came behind others: of one node, or what nothing meets
pub record AddsNeed (old new : List Need) (optional : ℕ) (node : Option ℕ) : Type 0 where
  pub need : Need
  pub is : new ≡ old ++ need ∷ []
  pub optional_is : need.optional ≡ optional
  pub from_is : meeting need ≡ option_to_list node

-- whether a need is that of an optional, and the nodes are those of a policy of so many statements
abbrev pub is_need_of : ℕ → ℕ → Need → Bool
is_need_of count optional need = (need.optional == optional) && list_all (λ n. nat_lt n (count + count + 1)) (meeting need)

-- Behind other needs came such of an optional as are met by the sets that don't have it or find something.
pub record Asks (policy : List Placed) (optional : ℕ) (found : Optionals → Bool) (old new : List Need) : Type 0 where
  pub more : List Need
  pub is : new ≡ old ++ more
  pub below : list_all (is_need_of (length policy) optional) more ≡ true
  pub met : (set : Optionals) (has : ℕ → Bool) → AreNodesOf policy set has → are_met has more ≡ (not (has optional) || found set)

-- a look-up leads to a statement that stands in no optional
pub record LeadsOutside (policy : List Placed) (lead : Option Placed) : Type 0 where
  pub place : ℕ
  pub found : Placed
  pub at : slice_get policy place ≡ Some found
  pub is : lead ≡ Some found
  pub outside : found.optionals ≡ []

-- whether these references are found
abbrev pub are_found : List Placed → List (List ℕ) → List (Table × Word) → Bool
are_found policy namespace references = list_all (λ r. not (is_unfound policy namespace r)) references

-- whether no class lacks these permissions
abbrev pub are_there : List Placed → List (List ℕ) → List (Word × Word) → Bool
are_there policy namespace permissions = list_all (λ p. not (is_lacking policy namespace p)) permissions

abbrev pub row_optional : Option Row → ℕ
row_optional None = 0
row_optional (Some row) = row.optional

-- the number of the innermost optional around the statement at a place
abbrev pub optional_at : {A : Type 0} → Policy A → ℕ → ℕ
optional_at p i = row_optional (slice_get p.rows.items i)

-- the statement at a place is one of this module
pub record IsOf {A : Type 0} (p : Policy A) (module_at : ParsedModule A) (i : ℕ) (s : Placed) : Type 0 where
  pub row : Row
  pub at : slice_get p.rows.items i ≡ Some row
  pub within : row.index < statement_count module_at
  pub statements : Statements
  pub spells : Spells module_at statements
  pub f : FlatStatement
  pub is : slice_get (flat 0 0 0 statements) row.index ≡ Some f
  pub form : f.form ≡ s.form
