-- The commons that statements give to classes.
use Rattle.std.specs.Prelude.{◌≡◌, ℕ, ◌<◌, List, [], flat_map, length, Option, Some, None, slice_get, if◌then◌else◌}
use Rattle.std.specs.List.{AllByRecursion}
use Rattle.std.specs.Option.{option_and_then}
use Rattle.cil_specs.specs.Names.{Word}
use Rattle.cil_specs.specs.Statements.{Form, class_common}
use Rattle.cil_specs.specs.Joined.{Placed}
use Rattle.cil_specs.specs.Lookup.{classes, commons, leads, listed_by, gives_common, common_permissions}
use Rattle.cil_bind.specs.Lookup.{IsFirstOf}
use Rattle.cil_check.specs.Groups.{list_at}

-- the permissions that commons at these places list
abbrev pub names_listed : List Placed → List ℕ → List (List ℕ)
names_listed policy places = flat_map (λ m. listed_by (slice_get policy m)) places

-- the permissions that a statement gives to a class by a common
abbrev pub given_names : List Placed → Placed → Placed → List (List ℕ)
given_names policy s t = if gives_common policy s t.namespace t.form then common_permissions policy t.namespace t.form else []

-- All that is noted are places of the policy, and for each class they list what some of its statements give it by commons.
pub record HasInheritedOf (policy statements : List Placed) (noted : List ℕ × List (List ℕ)) : Type 0 where
  pub within : (k : ℕ) → AllByRecursion (λ m. m < length policy) (list_at noted k)
  pub listed : (i : ℕ) (s : Placed) → slice_get policy i ≡ Some s → IsFirstOf classes policy i → names_listed policy (list_at noted i) ≡ flat_map (given_names policy s) statements

-- the same of all its statements
abbrev pub HasInherited : List Placed → List ℕ × List (List ℕ) → Type 0
HasInherited policy noted = HasInheritedOf policy policy noted

-- the common that a statement gives to a class
abbrev pub common_word : Form → Option Word
common_word (class_common the_class the_common) = Some the_common
common_word _ = None

-- where that word leads
abbrev pub common_lead : List Placed → Placed → Option Placed
common_lead policy t = option_and_then (λ w. leads policy commons t.namespace w.text) (common_word t.form)
