-- What is declared, by numbers.
use Rattle.std.specs.Prelude.{◌≡◌, ◌<◌, ◌↔◌, ◌&&◌, ◌==◌, ℕ, Bool, List, [], ◌∷◌, map, length, slice_index_or, slice_get, Option, Some, IfSome, IsTrue, Contains}
use Rattle.std.specs.List.{position, AllByRecursion}
use Rattle.std.specs.Map.{lookup}
use Rattle.std.specs.Option.{option_and_then}
use Rattle.cil_specs.specs.Joined.{Placed}
use Rattle.cil_specs.specs.Lookup.{Table, declares, is_same, has_block}
pub use Rattle.cil_parse.specs.Kinds.{table_of}
use Rattle.cil_parse.specs.declared.table.Table as code
use Rattle.cil_parse.specs.declared.table.Table.TheVariants.{Types, Classes, Commons, PermissionSets, Scopes}
use Rattle.cil_lookup.specs.declared.lookup.Key.{Key}

-- the word of a number
abbrev pub word_at : List (List ℕ) → ℕ → List ℕ
word_at names n = slice_index_or names n []

-- a namespace by the names of its blocks
abbrev pub named : List (List ℕ) → List ℕ → List (List ℕ)
named names space = map (word_at names) space

-- the namespace of a number, by the names of its blocks
abbrev pub namespace_at : List (List ℕ) → List (List ℕ) → ℕ → List (List ℕ)
namespace_at names spaces n = named names (slice_index_or spaces n [])

-- the words of a path, whose numbers are those of a module
abbrev pub path_of : List (List ℕ) → List ℕ → List ℕ → List (List ℕ)
path_of names words path = map (λ k. word_at names (slice_index_or words k 0)) path

abbrev pub table_index : code.Table → ℕ
table_index Types = 0
table_index Classes = 1
table_index Commons = 2
table_index PermissionSets = 3
table_index Scopes = 4

-- the key of a name, by the values of its fields
abbrev pub is_key : code.Table → ℕ → ℕ → Key → Bool
is_key table namespace word key = (table_index table == table_index key.table) && (namespace == key.namespace && word == key.word)

-- The entries have the first statement that declares a name.
abbrev pub HaveDeclared : List (List ℕ) → List (List ℕ) → List (Key × ℕ) → List Placed → Type 0
HaveDeclared names spaces entries policy = (table : code.Table) (n w : ℕ) → n < length spaces → w < length names
    → lookup (is_key table n w) entries ≡ position (declares (table_of table) (namespace_at names spaces n) (word_at names w)) policy

-- A namespace is there where a block opens it.
abbrev pub AreOpened : List (List ℕ) → List (List ℕ) → List Placed → Type 0
AreOpened names spaces policy = (n w : ℕ) → n < length spaces → w < length names
    → Contains spaces (w ∷ slice_index_or spaces n []) ↔ IsTrue (has_block policy (namespace_at names spaces n) (word_at names w))

-- By these names a policy has these namespaces, and the entries have what it declares.
pub record Knows (spaces : List (List ℕ)) (entries : List (Key × ℕ)) (names : List (List ℕ)) (policy : List Placed) : Type 0 where
  pub declared : HaveDeclared names spaces entries policy
  pub opened : AreOpened names spaces policy

-- the statement at this place is the first that declares its name
abbrev pub IsFirstOf : Table → List Placed → ℕ → Type 0
IsFirstOf table policy i = (s : Placed) → slice_get policy i ≡ Some s → position (is_same table s) policy ≡ Some i

-- What is found, by its place, is what a look-up leads to; and the statement there is the first that declares its name.
pub record IsLead (table : Table) (policy : List Placed) (found : Option ℕ) (lead : Option Placed) : Type 0 where
  pub is : option_and_then (slice_get policy) found ≡ lead
  pub within : IfSome found (λ i. i < length policy)
  pub first : IfSome found (IsFirstOf table policy)

-- the words of a module have numbers
abbrev pub AreWithin : List (List ℕ) → List ℕ → Type 0
AreWithin names words = AllByRecursion (λ w. w < length names) words
