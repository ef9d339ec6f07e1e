-- The permissions that are listed and the commons that are given.
use Rattle.std.specs.Prelude.{◌≡◌, ℕ, ◌-◌, Bool, true, false, ◌||◌, ◌&&◌, ◌==◌, List, [], ◌∷◌, length, take, slice_get, slice_index_or, bytes_eq, Option, Some, None, Vec, position, if◌then◌else◌}
use Rattle.std.specs.List.{list_all, list_any}
use Rattle.std.specs.Option.{option_and_then}
use Rattle.cil_specs.specs.Statements.{Form, class_common}
use Rattle.cil_specs.specs.Joined.{Placed}
use Rattle.cil_specs.specs.Lookup.{classes, commons, holds_of, leads, gives_common as gives_common_to, has_name, texts, own_permissions}
use Rattle.cil_bind.specs.Lookup.{IsFirstOf}
use Rattle.cil_bind.specs.KnownLists.{texts_listed}
use Rattle.cil_bind.specs.declared.joined.NamedModule.{NamedModule}
use Rattle.cil_parse.specs.declared.row.StatementKind.{StatementKind}
use Rattle.cil_parse.specs.declared.row.StatementKind.TheVariants as kinds
use Rattle.cil_optionals.specs.declared.listed.Gift.{Gift}
use Rattle.cil_optionals.specs.declared.listed.Listed.{Listed}
use Rattle.cil_optionals.specs.declared.listed.Permission.{Permission}

-- whether the statement at a place lists a permission
abbrev pub lists : List Permission → ℕ → List ℕ → Bool
lists listed place name = list_any (λ p. (place == p.place) && bytes_eq name p.name.now) listed

-- the places in a list, if it is there
abbrev pub places_in : {A : Type 0} → Option (Vec ℕ A) → List ℕ
places_in None = []
places_in (Some places) = places.items

-- the commons that are given to the class at a place
abbrev pub commons_at : {A : Type 0} → List (Vec ℕ A) → ℕ → List ℕ
commons_at given class = places_in (slice_get given class)

-- the statements that list a name
abbrev pub listers_at : {A : Type 0} → List (List ℕ) → List (Vec ℕ A) → List ℕ → List ℕ
listers_at names listers name = places_in (option_and_then (slice_get listers) (position (bytes_eq name) names))

-- whether a common is given to a class
abbrev pub has_gift : List Gift → ℕ → ℕ → Bool
has_gift gifts the_class the_common = list_any (λ g. (the_class == g.class) && the_common == g.common) gifts

-- whether a class has a permission, of its own or of a common that is given to it
abbrev pub has_permission : {A : Type 0} → List Permission → List (Vec ℕ A) → ℕ → List ℕ → Bool
has_permission listed given class name = lists listed class name || list_any (λ common. lists listed common name) (commons_at given class)

-- which permissions each class has
abbrev pub permissions_in : {A : Type 0} → Listed A → ℕ → List ℕ → Bool
permissions_in p = has_permission p.listed.keys p.given.items

-- the class and the common of two references, by what these are bound to
abbrev pub gift : List (Option ℕ) → Option (ℕ × ℕ)
gift (Some the_class ∷ Some the_common ∷ []) = Some (the_class, the_common)
gift _ = None

-- the common that is given to the class at a place
abbrev pub given_at : Option (ℕ × ℕ) → ℕ → List ℕ
given_at None i = []
given_at (Some (the_class, the_common)) i = if i == the_class then the_common ∷ [] else []

-- what the last reference is bound to
abbrev pub last_bound : List (Option ℕ) → Option ℕ
last_bound bound = slice_index_or bound (length bound - 1) None

-- whether statements of a kind name permissions of a class, which is the last of their references
abbrev pub names_permissions : StatementKind → Bool
names_permissions kinds.ClassPermissionSet = true
names_permissions (kinds.Rule kind) = true
names_permissions (kinds.RuleToSelf kind) = true
names_permissions _ = false

-- whether statements of a kind give a common to a class
abbrev pub gives_common : StatementKind → Bool
gives_common kinds.ClassCommon = true
gives_common _ = false

-- whether the statement at a place of a policy lists a permission
abbrev pub lists_at : List Placed → ℕ → List ℕ → Bool
lists_at policy place name = holds_of (λ s. has_name (texts (own_permissions s.form)) name) (slice_get policy place)

-- a test of the common that a statement in a namespace names
abbrev pub common_passes : List Placed → (Placed → Bool) → List (List ℕ) → Form → Bool
common_passes policy test namespace (class_common word the_common) = holds_of test (leads policy commons namespace the_common.text)
common_passes policy test namespace _ = false

-- whether a statement gives a common that passes a test to a class
abbrev pub gives_passing : List Placed → Placed → (Placed → Bool) → Placed → Bool
gives_passing policy s test t = gives_common_to policy s t.namespace t.form && common_passes policy test t.namespace t.form

-- What so many statements of a policy list and give.
pub record IsUpTo {A : Type 0} (policy : List Placed) (n : ℕ) (p : Listed A) : Type 0 where
  pub listed : (place : ℕ) (name : List ℕ) → lists p.listed.keys place name ≡ lists_at (take n policy) place name
  pub given : (i : ℕ) (s : Placed) (test : Placed → Bool) → slice_get policy i ≡ Some s → IsFirstOf classes policy i
      → list_any (λ common. holds_of test (slice_get policy common)) (commons_at p.given.items i) ≡ list_any (gives_passing policy s test) (take n policy)

-- The pairs are those of the commons that are given, and for each name there are the statements that list it.
pub record IsInverse {A : Type 0} (p : Listed A) : Type 0 where
  pub gifts : (the_class the_common : ℕ) → has_gift p.gifts.keys the_class the_common ≡ list_any (λ c. the_common == c) (commons_at p.given.items the_class)
  pub listers : (place : ℕ) (name : List ℕ) → list_any (λ other. place == other) (listers_at p.names p.listers.items name) ≡ lists p.listed.keys place name
  pub long : length p.names ≡ length p.listers.items

-- these questions are answered so
abbrev pub AreAnswers : (ℕ → List ℕ → Bool) → List Permission → Bool → Type 0
AreAnswers has questions answer = (the_class : ℕ) (name : List ℕ) → lists questions the_class name ≡ true → has the_class name ≡ answer

-- the questions at hand are answered with yes
abbrev pub AreRecent : (ℕ → List ℕ → Bool) → List (Option Permission) → Type 0
AreRecent has recent = (i : ℕ) (p : Permission) → slice_get recent i ≡ Some (Some p) → has p.place p.name.now ≡ true

-- whether a class has all permissions of a list, by the number of its module and its own
abbrev pub has_list : {A : Type 0} → List (NamedModule A) → (ℕ → List ℕ → Bool) → ℕ → ℕ → ℕ → Bool
has_list modules has number list the_class = list_all (has the_class) (texts_listed modules number list)
