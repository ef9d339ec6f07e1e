-- The permissions that statements name, and those that classes have.
use Rattle.std.specs.Prelude.{ℕ, Bool, List, map, filter, slice_get, Option, Some, None}
use Rattle.std.specs.List.{list_all}
use Rattle.std.specs.Option.{option_and_then}
use Rattle.cil_specs.specs.Names.{Word}
use Rattle.cil_specs.specs.Statements.{Form, class_permission_set, rule, ClassPermissions, anonymous, by_name}
use Rattle.cil_specs.specs.Joined.{Placed}
use Rattle.cil_specs.specs.Lookup.{classes, leads, holds_of, has_name, permissions_of, named_permissions}
use Rattle.cil_specs.specs.PolicyFault.{is_lacking}
use Rattle.cil_bind.specs.KnownLists.{texts_listed}
use Rattle.cil_bind.specs.declared.joined.NamedModule.{NamedModule}

-- the class of permissions, if they aren't those of a permission set
abbrev pub class_with : ClassPermissions → Option Word
class_with (anonymous the_class permissions) = Some the_class
class_with (by_name set) = None

-- the class of the permissions that a statement names
abbrev pub named_class : Form → Option Word
named_class (class_permission_set set the_class permissions) = Some the_class
named_class (rule kind source target permissions) = class_with permissions
named_class _ = None

-- where it leads
abbrev pub class_lead : List Placed → Placed → Option Placed
class_lead policy s = option_and_then (λ w. leads policy classes s.namespace w.text) (named_class s.form)

-- the permissions that a statement names and its class lacks
abbrev pub lacking_words : List Placed → Placed → List Word
lacking_words policy s = map (λ p. p.1) (filter (is_lacking policy s.namespace) (named_permissions s.form))

-- whether the class at a place has all permissions of a list, by the number of its module and its own
abbrev pub has_list : {A : Type 0} → List (NamedModule A) → List Placed → ℕ → ℕ → ℕ → Bool
has_list modules policy number list place = holds_of (λ c. list_all (has_name (permissions_of policy c)) (texts_listed modules number list)) (slice_get policy place)
