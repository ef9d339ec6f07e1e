-- What a statement declares and names, and where a name leads.
use Rattle.std.specs.Prelude.{ℕ, Bool, true, false, ◌&&◌, ◌==◌, List, [], ◌∷◌, ◌++◌, map, flat_map, fold, Option, Some, None, bytes_eq, if◌then◌else◌}
use Rattle.std.specs.List.{find, list_any}
use Rattle.std.specs.Option.{option_or, option_and_then}
use Rattle.cil_specs.specs.Names.{Word, components}
use Rattle.cil_specs.specs.Expr.{leaves}
use Rattle.cil_specs.specs.Statements.{Form, block, optional, type_name, type_alias, alias_actual, type_attribute, attribute_set, common, class, class_common, class_order, class_permission, class_permission_set, rule, ClassPermissions, anonymous, by_name, target_words}
use Rattle.cil_specs.specs.Joined.{Placed}

-- The tables of names. Types, aliases and attributes share one, and so do blocks and optionals. A permission set has one of its own.
pub data Table : Type 0 where
  types : Table
  classes : Table
  commons : Table
  permission_sets : Table
  scopes : Table

-- the name that a statement declares in a table
abbrev pub declared_in : Table → Form → Option Word
declared_in types (type_name id) = Some id
declared_in types (type_alias id) = Some id
declared_in types (type_attribute id) = Some id
declared_in classes (class id permissions) = Some id
declared_in commons (common id permissions) = Some id
declared_in permission_sets (class_permission id) = Some id
declared_in scopes (block id) = Some id
declared_in scopes (optional id) = Some id
declared_in _ _ = None

-- whether two namespaces are one
abbrev pub same_namespace : List (List ℕ) → List (List ℕ) → Bool
same_namespace [] [] = true
same_namespace [] (name ∷ names) = false
same_namespace (name ∷ names) [] = false
same_namespace (a ∷ more) (b ∷ others) = bytes_eq a b && same_namespace more others

abbrev pub is_word : List ℕ → Option Word → Bool
is_word name None = false
is_word name (Some word) = bytes_eq word.text name

-- whether a statement declares the name in the table and the namespace
abbrev pub declares : Table → List (List ℕ) → List ℕ → Placed → Bool
declares table namespace name s = is_word name (declared_in table s.form) && same_namespace s.namespace namespace

-- the first statement that declares the name in the table and the namespace
abbrev pub declaration : List Placed → Table → List (List ℕ) → List ℕ → Option Placed
declaration policy table namespace name = find (declares table namespace name) policy

-- the name of a block
abbrev pub block_name : Form → Option Word
block_name (block id) = Some id
block_name _ = None

-- whether a statement is a block of this name in the namespace
abbrev pub is_block : List (List ℕ) → List ℕ → Placed → Bool
is_block namespace name s = is_word name (block_name s.form) && same_namespace s.namespace namespace

-- whether a namespace has a block of this name
abbrev pub has_block : List Placed → List (List ℕ) → List ℕ → Bool
has_block policy namespace name = list_any (is_block namespace name) policy

-- Where a plain name leads from a namespace: to its declaration in the nearest namespace outward that has one.
abbrev pub outward : List Placed → Table → List (List ℕ) → List ℕ → Option Placed
outward policy table [] name = declaration policy table [] name
outward policy table (inner ∷ outer) name = option_or (declaration policy table (inner ∷ outer) name) (outward policy table outer name)

-- the namespace that the nearest block of a name outward opens
abbrev pub nearest_block : List Placed → List (List ℕ) → List ℕ → Option (List (List ℕ))
nearest_block policy [] name = if has_block policy [] name then Some (name ∷ []) else None
nearest_block policy (inner ∷ outer) name = if has_block policy (inner ∷ outer) name then Some (name ∷ inner ∷ outer) else nearest_block policy outer name

-- Where names between dots lead strictly inside a namespace: each but the last to a block there, in which the next is looked up,
-- and the last to its declaration. There is no way back outward.
abbrev pub inside : List Placed → Table → List (List ℕ) → List (List ℕ) → Option Placed
inside policy table namespace [] = None
inside policy table namespace (name ∷ []) = declaration policy table namespace name
inside policy table namespace (name ∷ next ∷ more) = if has_block policy namespace name then inside policy table (name ∷ namespace) (next ∷ more) else None

-- Where names between dots lead from a namespace: a single one outward; of several, the first to the nearest block outward and the
-- others inside it.
abbrev pub from_namespace : List Placed → Table → List (List ℕ) → List (List ℕ) → Option Placed
from_namespace policy table namespace [] = None
from_namespace policy table namespace (name ∷ []) = outward policy table namespace name
from_namespace policy table namespace (name ∷ next ∷ more) = option_and_then (λ inner. inside policy table inner (next ∷ more)) (nearest_block policy namespace name)

-- whether a reference begins with a dot
abbrev pub is_global : List ℕ → Bool
is_global [] = false
is_global (b ∷ bytes) = b == 46

-- Where a reference leads from a namespace. With a leading dot it is looked up in the global namespace alone.
abbrev pub leads : List Placed → Table → List (List ℕ) → List ℕ → Option Placed
leads policy table namespace text =
    if is_global text then inside policy table [] (components text) else from_namespace policy table namespace (components text)

-- the names of the blocks from the outside in and the name itself, joined by dots
abbrev pub full_name : List (List ℕ) → List ℕ → List ℕ
full_name [] name = name
full_name (inner ∷ outer) name = full_name outer inner ++ 46 ∷ name

abbrev pub word_text : Option Word → List ℕ
word_text None = []
word_text (Some word) = word.text

-- the full name of what a statement declares in a table
abbrev pub declared_name : Table → Placed → List ℕ
declared_name table s = full_name s.namespace (word_text (declared_in table s.form))

-- whether the second statement declares the name of the first, in the same table and namespace
abbrev pub is_same : Table → Placed → Placed → Bool
is_same table s t = declares table s.namespace (word_text (declared_in table s.form)) t

-- a test of a declaration that may not be there
abbrev pub holds_of : (Placed → Bool) → Option Placed → Bool
holds_of test None = false
holds_of test (Some s) = test s

-- the class of a rule's permissions, or its permission set, with its table
abbrev pub permission_reference : ClassPermissions → Table × Word
permission_reference (anonymous the_class permissions) = (classes, the_class)
permission_reference (by_name set) = (permission_sets, set)

-- the references of a statement, each with its table, in the order of the text
abbrev pub references : Form → List (Table × Word)
references (alias_actual alias actual) = (types, alias) ∷ (types, actual) ∷ []
references (attribute_set attribute expr) = (types, attribute) ∷ map (λ w. (types, w)) (leaves expr)
references (class_common the_class the_common) = (classes, the_class) ∷ (commons, the_common) ∷ []
references (class_order the_classes) = map (λ w. (classes, w)) the_classes
references (class_permission_set set the_class permissions) = (permission_sets, set) ∷ (classes, the_class) ∷ []
references (rule kind source target permissions) = (types, source) ∷ (map (λ w. (types, w)) (target_words target) ++ permission_reference permissions ∷ [])
references _ = []

-- the permissions of an expression of a class's, each with the word of the class
abbrev pub permissions_with : ClassPermissions → List (Word × Word)
permissions_with (anonymous the_class permissions) = map (λ w. (the_class, w)) (leaves permissions)
permissions_with (by_name set) = []

-- the permissions that a statement names, each with the word of its class
abbrev pub named_permissions : Form → List (Word × Word)
named_permissions (class_permission_set set the_class permissions) = permissions_with (anonymous the_class permissions)
named_permissions (rule kind source target permissions) = permissions_with permissions
named_permissions _ = []

abbrev pub texts : List Word → List (List ℕ)
texts words = map (λ w. w.text) words

-- the permissions that a class or a common lists
abbrev pub own_permissions : Form → List Word
own_permissions (class id permissions) = permissions
own_permissions (common id permissions) = permissions
own_permissions _ = []

abbrev pub listed_by : Option Placed → List (List ℕ)
listed_by None = []
listed_by (Some s) = texts (own_permissions s.form)

-- whether a statement in a namespace gives a common to the class
abbrev pub gives_common : List Placed → Placed → List (List ℕ) → Form → Bool
gives_common policy the_class namespace (class_common word the_common) = holds_of (is_same classes the_class) (leads policy classes namespace word.text)
gives_common policy the_class namespace _ = false

-- the permissions of the common that a statement in a namespace names
abbrev pub common_permissions : List Placed → List (List ℕ) → Form → List (List ℕ)
common_permissions policy namespace (class_common word the_common) = listed_by (leads policy commons namespace the_common.text)
common_permissions policy namespace _ = []

-- the permissions of a class: its own, and those of each common that a statement gives it
abbrev pub permissions_of : List Placed → Placed → List (List ℕ)
permissions_of policy s = texts (own_permissions s.form)
    ++ flat_map (λ t. if gives_common policy s t.namespace t.form then common_permissions policy t.namespace t.form else []) policy

-- whether a name is among names
abbrev pub has_name : List (List ℕ) → List ℕ → Bool
has_name names name = list_any (bytes_eq name) names

-- the names with one more, last, if it is new
abbrev pub with_name : List (List ℕ) → List ℕ → List (List ℕ)
with_name names name = if has_name names name then names else names ++ name ∷ []

-- names, each once
abbrev pub distinct : List (List ℕ) → List (List ℕ)
distinct names = fold with_name [] names

-- whether a statement in a namespace gives an actual type to the alias
abbrev pub gives_actual : List Placed → Placed → List (List ℕ) → Form → Bool
gives_actual policy alias namespace (alias_actual word actual) = holds_of (is_same types alias) (leads policy types namespace word.text)
gives_actual policy alias namespace _ = false

-- the first statement that gives an actual type to the alias
abbrev pub actual_statement : List Placed → Placed → Option Placed
actual_statement policy alias = find (λ s. gives_actual policy alias s.namespace s.form) policy

-- what a statement in a namespace gives to an alias as its actual type
abbrev pub actual_in : List Placed → List (List ℕ) → Form → Option Placed
actual_in policy namespace (alias_actual word actual) = leads policy types namespace actual.text
actual_in policy namespace _ = None

-- the actual type of an alias
abbrev pub actual_of : List Placed → Placed → Option Placed
actual_of policy alias = option_and_then (λ s. actual_in policy s.namespace s.form) (actual_statement policy alias)

abbrev pub is_type : Form → Bool
is_type (type_name id) = true
is_type _ = false

abbrev pub is_alias : Form → Bool
is_alias (type_alias id) = true
is_alias _ = false

abbrev pub is_attribute : Form → Bool
is_attribute (type_attribute id) = true
is_attribute _ = false
