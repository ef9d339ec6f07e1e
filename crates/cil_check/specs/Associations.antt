-- What statements give to the aliases and classes of a policy.
use Rattle.std.specs.Prelude.{◌≡◌, ℕ, ◌==◌, Bool, true, false, List, [], ◌∷◌, ◌++◌, Option, Some, None, is_some, slice_get, if◌then◌else◌}
use Rattle.std.specs.List.{position}
use Rattle.std.specs.Map.{lookup}
use Rattle.std.specs.Option.{option_and_then}
use Rattle.cil_specs.specs.Names.{Word}
use Rattle.cil_specs.specs.Statements.{Form, alias_actual, class_common}
use Rattle.cil_specs.specs.Joined.{Placed}
use Rattle.cil_specs.specs.Lookup.{Table, types, classes, leads, gives_actual, gives_common}
use Rattle.cil_bind.specs.Lookup.{IsFirstOf}
use Rattle.cil_parse.specs.declared.row.StatementKind.{StatementKind}
use Rattle.cil_parse.specs.declared.row.StatementKind.TheVariants as statements
use Rattle.cil_check.specs.declared.firsts.Association.{Association}
use Rattle.cil_check.specs.declared.firsts.Association.TheVariants.{Actual, Common}

-- the place that is noted for a place
abbrev pub first_at : List (ℕ × ℕ) → ℕ → Option ℕ
first_at entries place = lookup (λ k. place == k) entries

-- with one more, last, if none is noted yet
abbrev pub with_first : List (ℕ × ℕ) → ℕ → ℕ → List (ℕ × ℕ)
with_first entries to place = if is_some (first_at entries to) then entries else entries ++ (to, place) ∷ []

-- the table of what is given something
abbrev pub association_table : Association → Table
association_table Actual = types
association_table Common = classes

-- the word of what a statement gives something to
abbrev pub given_word : Association → Form → Option Word
given_word Actual (alias_actual alias actual) = Some alias
given_word Common (class_common the_class the_common) = Some the_class
given_word _ _ = None

-- whether statements of a kind give something
abbrev pub given_kind : Association → StatementKind → Bool
given_kind Actual statements.TypeAliasActual = true
given_kind Common statements.ClassCommon = true
given_kind _ _ = false

-- where that word leads
abbrev pub given_lead : Association → List Placed → Placed → Option Placed
given_lead association policy t = option_and_then (λ w. leads policy (association_table association) t.namespace w.text) (given_word association t.form)

-- whether a statement gives something to a declaration
abbrev pub gives : Association → List Placed → Placed → Placed → Bool
gives Actual policy s t = gives_actual policy s t.namespace t.form
gives Common policy s t = gives_common policy s t.namespace t.form

-- of some of the statements of a policy, the first that give something are noted
abbrev pub HasFirstsOf : Association → List Placed → List Placed → List (ℕ × ℕ) → Type 0
HasFirstsOf association policy statements firsts = (i : ℕ) (s : Placed) → slice_get policy i ≡ Some s → IsFirstOf (association_table association) policy i
    → first_at firsts i ≡ position (gives association policy s) statements

-- the first statements that give something are noted
abbrev pub HasFirsts : Association → List Placed → List (ℕ × ℕ) → Type 0
HasFirsts association policy firsts = HasFirstsOf association policy policy firsts
