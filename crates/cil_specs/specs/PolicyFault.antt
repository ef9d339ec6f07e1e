-- The faults of a joined policy, and the first of them.
use Rattle.std.specs.Prelude.{◌≡◌, ℕ, ◌<◌, ◌≤◌, ◌⊎◌, Bool, true, false, not, ◌&&◌, nat_lt, List, [], ◌∷◌, ◌++◌, map, filter, flat_map, length, bytes_eq, is_some, Contains, if◌then◌else◌}
use Rattle.std.specs.List.{list_any}
use Rattle.std.specs.Option.{option_to_list}
use Rattle.std.specs.Ordering.{nat_cmp}
use Rattle.std.specs.declared.cmp.Ordering.TheVariants.{Less}
use Rattle.std.specs.Cmp.Lexicographic.{slice_cmp}
use Rattle.cil_specs.specs.Place.{Place}
use Rattle.cil_specs.specs.Names.{Word}
use Rattle.cil_specs.specs.Expr.{leaves}
use Rattle.cil_specs.specs.Statements.{Form, alias_actual, type_attribute, attribute_set, class_common, rule, target_words, is_optional}
use Rattle.cil_specs.specs.Joined.{Placed}
use Rattle.cil_specs.specs.Lookup.{Table, types, classes, commons, permission_sets, scopes, declared_in, declared_name, declares, leads, holds_of, references, named_permissions, permissions_of, distinct, gives_common, gives_actual, actual_statement, is_type, is_alias, is_attribute}
use Rattle.cil_specs.specs.Rule.{sets_of}
use Rattle.cil_specs.specs.Sets.{DependsOn}

pub data PolicyFaultKind : Type 0 where
  twice : PolicyFaultKind
  missing : PolicyFaultKind
  wrong_kind : PolicyFaultKind
  alias_twice : PolicyFaultKind
  alias_unset : PolicyFaultKind
  second_common : PolicyFaultKind
  too_many_permissions : PolicyFaultKind
  circular : PolicyFaultKind

-- the code in a reply
abbrev pub code_of : PolicyFaultKind → ℕ
code_of twice = 41
code_of missing = 42
code_of wrong_kind = 43
code_of alias_twice = 44
code_of alias_unset = 45
code_of second_common = 46
code_of too_many_permissions = 47
code_of circular = 48

-- what is wrong, in which module, where, and the word that a reply shows
pub record PolicyFault : Type 0 where
  pub kind : PolicyFaultKind
  pub module_name : List ℕ
  pub at : Place
  pub word : List ℕ

-- whether an earlier statement declares the name in the same table and namespace, where the two aren't both optionals
abbrev pub is_again : Table → Placed → Word → Placed → Bool
is_again table s id earlier = declares table s.namespace id.text earlier && not (is_optional s.form && is_optional earlier.form)

abbrev pub tables : List Table
tables = types ∷ classes ∷ commons ∷ permission_sets ∷ scopes ∷ []

-- the name that a statement declares and that a statement before it declares already
abbrev pub twice_words : List Placed → Placed → List Word
twice_words before s = flat_map (λ table. filter (λ id. list_any (is_again table s id) before) (option_to_list (declared_in table s.form))) tables

abbrev pub is_unfound : List Placed → List (List ℕ) → Table × Word → Bool
is_unfound policy namespace (table, word) = not (is_some (leads policy table namespace word.text))

-- whether a class that is found lacks a permission
abbrev pub is_lacking : List Placed → List (List ℕ) → Word × Word → Bool
is_lacking policy namespace (the_class, word) =
    holds_of (λ s. not (list_any (bytes_eq word.text) (permissions_of policy s))) (leads policy classes namespace the_class.text)

-- the references of a statement that lead nowhere, and the permissions that their class lacks
abbrev pub missing_words : List Placed → Placed → List Word
missing_words policy s = map (λ r. r.1) (filter (is_unfound policy s.namespace) (references s.form))
    ++ map (λ p. p.1) (filter (is_lacking policy s.namespace) (named_permissions s.form))

-- the references of a statement that have to lead to a type, an alias or an attribute, each with the test of it
abbrev pub kinds_asked : Form → List ((Form → Bool) × Word)
kinds_asked (alias_actual alias actual) = (is_alias, alias) ∷ (is_type, actual) ∷ []
kinds_asked (attribute_set attribute expr) = (is_attribute, attribute) ∷ []
kinds_asked _ = []

abbrev pub is_of_another_kind : List Placed → List (List ℕ) → (Form → Bool) × Word → Bool
is_of_another_kind policy namespace (test, word) = holds_of (λ s. not (test s.form)) (leads policy types namespace word.text)

-- the references of a statement that lead to a thing of another kind
abbrev pub wrong_kind_words : List Placed → Placed → List Word
wrong_kind_words policy s = map (λ r. r.1) (filter (is_of_another_kind policy s.namespace) (kinds_asked s.form))

-- the alias of a statement that gives it an actual type
abbrev pub alias_words : Form → List Word
alias_words (alias_actual alias actual) = alias ∷ []
alias_words _ = []

-- whether a statement before gives an actual type to the alias that a word leads to
abbrev pub has_earlier_actual : List Placed → List Placed → List (List ℕ) → Word → Bool
has_earlier_actual policy before namespace word =
    holds_of (λ s. list_any (λ t. gives_actual policy s t.namespace t.form) before) (leads policy types namespace word.text)

abbrev pub alias_twice_words : List Placed → List Placed → Placed → List Word
alias_twice_words policy before s = filter (has_earlier_actual policy before s.namespace) (alias_words s.form)

-- the words of a rule's source and target, and those of a set expression
abbrev pub element_words : Form → List Word
element_words (rule kind source target permissions) = source ∷ target_words target
element_words (attribute_set attribute expr) = leaves expr
element_words _ = []

-- whether a word leads to an alias without an actual type
abbrev pub is_unset : List Placed → List (List ℕ) → Word → Bool
is_unset policy namespace word = holds_of (λ s. is_alias s.form && not (is_some (actual_statement policy s))) (leads policy types namespace word.text)

abbrev pub alias_unset_words : List Placed → Placed → List Word
alias_unset_words policy s = filter (is_unset policy s.namespace) (element_words s.form)

-- the class of a statement that gives it a common
abbrev pub common_words : Form → List Word
common_words (class_common the_class the_common) = the_class ∷ []
common_words _ = []

-- whether a statement before gives a common to the class that a word leads to
abbrev pub has_earlier_common : List Placed → List Placed → List (List ℕ) → Word → Bool
has_earlier_common policy before namespace word =
    holds_of (λ s. list_any (λ t. gives_common policy s t.namespace t.form) before) (leads policy classes namespace word.text)

abbrev pub second_common_words : List Placed → List Placed → Placed → List Word
second_common_words policy before s = filter (has_earlier_common policy before s.namespace) (common_words s.form)

-- whether a class has more than 32 permissions, its common's included, each counted once
abbrev pub has_too_many : List Placed → Placed → Bool
has_too_many policy s = nat_lt 32 (length (distinct (permissions_of policy s)))

abbrev pub too_many_words : List Placed → Placed → List Word
too_many_words policy s = filter (λ id. has_too_many policy s) (option_to_list (declared_in classes s.form))

-- whether no optionals are around a statement
abbrev pub is_outside : List ℕ → Bool
is_outside [] = true
is_outside (at ∷ optionals) = false

-- A typeattribute statement declares an attribute that depends on itself. The fault stands at the word that it declares, not at the
-- typeattributeset statements that make the circle.
pub record IsCircular (policy : List Placed) (s : Placed) (word : Word) : Type 0 where
  pub declares : s.form ≡ type_attribute word
  pub depends : DependsOn (sets_of policy) (declared_name types s) (declared_name types s)

-- A statement has a fault of a kind at a word; before are the statements in front of it in the policy. A name is missing outside
-- optionals alone.
abbrev pub IsFaulty : PolicyFaultKind → List Placed → List Placed → Placed → Word → Type 0
IsFaulty twice policy before s word = Contains (twice_words before s) word
IsFaulty missing policy before s word = Contains (if is_outside s.optionals then missing_words policy s else []) word
IsFaulty wrong_kind policy before s word = Contains (wrong_kind_words policy s) word
IsFaulty alias_twice policy before s word = Contains (alias_twice_words policy before s) word
IsFaulty alias_unset policy before s word = Contains (alias_unset_words policy s) word
IsFaulty second_common policy before s word = Contains (second_common_words policy before s) word
IsFaulty too_many_permissions policy before s word = Contains (too_many_words policy s) word
IsFaulty circular policy before s word = IsCircular policy s word

-- a fault of this kind at a word of a statement
abbrev pub IsAtWordOf : PolicyFault → PolicyFaultKind → Placed → Word → Type 0
IsAtWordOf fault kind s word = fault ≡ record { kind = kind; module_name = s.module_name; at = word.at; word = word.text }

-- a fault of a policy, at a word of one of its statements
pub record IsFaultOf (kind : PolicyFaultKind) (policy : List Placed) (fault : PolicyFault) : Type 0 where
  pub before : List Placed
  pub s : Placed
  pub after : List Placed
  pub word : Word
  pub split : policy ≡ before ++ s ∷ after
  pub is_faulty : IsFaulty kind policy before s word
  pub is_at : IsAtWordOf fault kind s word

-- the one has the lesser code; or the same and the lesser module name; or the same and no greater offset
abbrev pub IsNoLater : PolicyFault → PolicyFault → Type 0
IsNoLater f g = (code_of f.kind < code_of g.kind)
    ⊎ ((code_of f.kind ≡ code_of g.kind) × ((slice_cmp nat_cmp f.module_name g.module_name ≡ Less)
    ⊎ ((f.module_name ≡ g.module_name) × (f.at.offset ≤ g.at.offset))))
