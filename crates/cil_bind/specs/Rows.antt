-- Statements by numbers.
use Rattle.std.specs.Prelude.{◌≡◌, ◌<◌, ℕ, Bool, true, false, List, [], ◌∷◌, ◌++◌, length, map, take, slice_get, bytes_eq, Option, Some, None}
use Rattle.std.specs.List.{IsDistinct, AllByRecursion}
use Rattle.cil_specs.specs.Names.{Word}
use Rattle.cil_specs.specs.Statements.{Form, block, is_optional}
use Rattle.cil_specs.specs.Joined.{Placed}
use Rattle.cil_specs.specs.Lookup.{Table, declared_in}
use Rattle.cil_specs.specs.PolicyFault.{PolicyFault, twice, twice_words, IsFaultOf}
use Rattle.cil_lookup.specs.Lookup.{word_at, namespace_at, table_of, HaveDeclared}
use Rattle.cil_parse.specs.Forms.{kind_of}
use Rattle.cil_parse.specs.declared.row.StatementKind.{StatementKind}
use Rattle.cil_parse.specs.declared.row.StatementKind.TheVariants as kinds
use Rattle.cil_parse.specs.declared.table.Table as code
use Rattle.cil_lookup.specs.declared.lookup.Key.{Key}
use Rattle.cil_bind.specs.declared.rows.Row.{Row}
use Rattle.cil_bind.specs.declared.declarations.Declared.{Declared}
use Rattle.cil_bind.specs.declared.declarations.Declared.TheVariants.{Once, Twice}

-- what a statement declares, by its table and the number of its word
abbrev pub IsDeclared : List (List ℕ) → Option (code.Table × ℕ) → Form → Type 0
IsDeclared names None form = (table : Table) → declared_in table form ≡ None
IsDeclared names (Some (table, w)) form = (w < length names) × ((word : Word) × (declared_in (table_of table) form ≡ Some word) × (word.text ≡ word_at names w))

-- a row is that of a statement of the joined policy
pub record IsRow (names spaces : List (List ℕ)) (row : Row) (s : Placed) : Type 0 where
  pub within : row.namespace < length spaces
  pub here : namespace_at names spaces row.namespace ≡ s.namespace
  pub declares : IsDeclared names row.declares s.form
  pub kind : row.kind ≡ kind_of s.form
  pub optional : row.is_optional ≡ is_optional s.form
  pub inside : (id : Word) → s.form ≡ block id → (row.inside < length spaces) × (namespace_at names spaces row.inside ≡ id.text ∷ s.namespace)

-- the rows are those of a joined policy
abbrev pub AreRows : List (List ℕ) → List (List ℕ) → List Row → List Placed → Type 0
AreRows names spaces [] [] = Unit {0}
AreRows names spaces [] (s ∷ policy) = ⊥
AreRows names spaces (row ∷ rows) [] = ⊥
AreRows names spaces (row ∷ rows) (s ∷ policy) = IsRow names spaces row s × AreRows names spaces rows policy

-- the kinds of the statements of rows
abbrev pub kinds_told : List Row → List StatementKind
kinds_told rows = map (λ row. row.kind) rows

-- whether statements of a kind declare a name
abbrev pub declares_name : StatementKind → Bool
declares_name kinds.Block = true
declares_name kinds.Optional = true
declares_name kinds.TypeName = true
declares_name kinds.TypeAlias = true
declares_name kinds.TypeAttribute = true
declares_name kinds.Common = true
declares_name kinds.Class = true
declares_name kinds.ClassPermission = true
declares_name _ = false

abbrev pub is_optional_row : Option Row → Bool
is_optional_row None = false
is_optional_row (Some row) = row.is_optional

-- no two words are one, nor two namespaces, and each namespace has words alone
pub record AreNumbered (names spaces : List (List ℕ)) : Type 0 where
  pub names_distinct : IsDistinct bytes_eq names
  pub spaces_distinct : IsDistinct bytes_eq spaces
  pub within : AllByRecursion (AllByRecursion (λ w. w < length names)) spaces

-- no name of a policy is declared twice
abbrev pub IsOnce : List Placed → Type 0
IsOnce policy = (fault : PolicyFault) → IsFaultOf twice policy fault → ⊥

-- What is answered of a statement behind others: whether they declare its name, where the two aren't both optionals; and if not, the
-- entries have what it declares too.
pub record IsTaken (names spaces : List (List ℕ)) (policy : List Placed) (s : Placed) (entries : List (Key × ℕ)) (again : Bool) : Type 0 where
  pub once : again ≡ false → (twice_words policy s ≡ []) × HaveDeclared names spaces entries (policy ++ s ∷ [])
  pub twice : again ≡ true → (word : Word) × (twice_words policy s ≡ word ∷ [])

-- What is found of the rows of a policy: the first declaration of each name, and none is declared twice; or the first statement whose
-- name those in front of it declare, where the two aren't both optionals.
abbrev pub DeclareThat : {A : Type 0} → List (List ℕ) → List (List ℕ) → List Placed → Declared A → Type 0
DeclareThat names spaces policy (Once d) = HaveDeclared names spaces d.first.entries policy × IsOnce policy
DeclareThat names spaces policy (Twice i) = IsOnce (take i policy) × ((s : Placed) × (word : Word) × (slice_get policy i ≡ Some s) × (twice_words (take i policy) s ≡ word ∷ []))
