-- The statements of a joined policy by numbers.
use Rattle.std.specs.Prelude.{zero, suc, ◌≡◌, ◌⊎◌, ◌<◌, ℕ, List, [], ◌∷◌, ◌++◌, Bool, true, false, Contains, Option, Some, None, slice_index_or, slice_get, ◌+◌, ◌==◌, if◌then◌else◌, length, bytes_eq}
use Rattle.std.specs.List.{IsDistinct}
use Rattle.cil_specs.specs.Names.{Word}
use Rattle.cil_specs.specs.Statements.{Statements, Form, block, optional}
use Rattle.cil_specs.specs.Joined.{Placed, Module, placed}
use Rattle.cil_lookup.specs.Lookup.{named, namespace_at}
use Rattle.cil_parse.specs.Around.{IsBlockOf}
use Rattle.cil_parse.specs.declared.citations.Citation.{Citation}
use Rattle.cil_bind.specs.Rows.{IsDeclared, AreRows, AreNumbered}
use Rattle.cil_parse.specs.Flat.{FlatStatement, flat}
use Rattle.cil_parse.specs.Parsed.{Spells, citations_of, statement_count}
use Rattle.cil_parse.specs.declared.parsed.ParsedModule.{ParsedModule}
use Rattle.cil_bind.specs.declared.rows.Row.{Row}
use Rattle.cil_parse.specs.declared.table.Table.{Table}
use Rattle.cil_parse.specs.declared.row.StatementKind.{StatementKind}
use Rattle.cil_parse.specs.declared.row.StatementKind.TheVariants as kinds
use Rattle.cil_bind.specs.declared.scope.Scope.{Scope}
use Rattle.cil_bind.specs.declared.joined.NamedModule.{NamedModule}

-- a namespace is the global one, or a block of the policy opens it
abbrev pub IsOpenedIn : List (List ℕ) → List Placed → List ℕ → Type 0
IsOpenedIn names policy space = (space ≡ []) ⊎ ((s : Placed) × (id : Word) × Contains policy s × (s.form ≡ block id) × (named names space ≡ id.text ∷ s.namespace))

-- These names, namespaces and rows are those of a policy.
pub record Stands (names spaces : List (List ℕ)) (rows : List Row) (policy : List Placed) : Type 0 where
  pub numbered : AreNumbered names spaces
  pub global : slice_index_or spaces 0 [] ≡ []
  pub rows_are : AreRows names spaces rows policy
  pub opened_by : (space : List ℕ) → Contains spaces space → IsOpenedIn names policy space

-- these modules, by their names, have these statements
abbrev pub AreSpelt : {A : Type 0} → List (NamedModule A) → List Module → Type 0
AreSpelt [] [] = Unit {0}
AreSpelt [] (m ∷ modules) = ⊥
AreSpelt (n ∷ parsed) [] = ⊥
AreSpelt (n ∷ parsed) (m ∷ modules) = (n.name.now ≡ m.name) × Spells n.module.now m.statements × AreSpelt parsed modules

-- what the statement of an index of a module says
abbrev pub SaysAt : {A : Type 0} → ParsedModule A → ℕ → Form → Type 0
SaysAt p i form = (statements : Statements) × (f : FlatStatement) × Spells p statements × (slice_get (flat 0 0 0 statements) i ≡ Some f) × (f.form ≡ form)

-- A word was numbered, if a statement that says this declares one; all else stays.
pub record Declares {A : Type 0} (old new : Scope A) (found : Option (Table × ℕ)) (Says : Form → Type 0) : Type 0 where
  pub namespaces : new.namespaces ≡ old.namespaces
  pub rows : new.rows ≡ old.rows
  pub kinds : new.kinds ≡ old.kinds
  pub kept : (more : List (List ℕ)) × (new.names ≡ old.names ++ more)
  pub distinct : IsDistinct bytes_eq old.names → IsDistinct bytes_eq new.names
  pub declares : (form : Form) → Says form → IsDeclared new.names found form

-- the number of the word of a block
abbrev pub block_word : StatementKind → Option (Table × ℕ) → Option ℕ
block_word kinds.Block (Some (table, w)) = Some w
block_word _ _ = None

abbrev pub is_optional_kind : StatementKind → Bool
is_optional_kind kinds.Optional = true
is_optional_kind _ = false

-- the number of an optional in a policy by that in its module, whose statements begin at a place; 0 stays 0
abbrev pub optional_number : ℕ → ℕ → ℕ
optional_number start number = if number == 0 then 0 else start + number

-- the names, namespaces and rows are those of a policy
abbrev pub StandsFor : {A : Type 0} → Scope A → List Placed → Type 0
StandsFor scope policy = Stands scope.names scope.namespaces scope.rows.items policy

-- A row tells the module and the index of its statement, and whether it stands in an optional.
pub record IsFrom {A : Type 0} (parsed : List (NamedModule A)) (row : Row) (s : Placed) : Type 0 where
  pub m : NamedModule A
  pub at : slice_get parsed row.«module» ≡ Some m
  pub named : m.name.now ≡ s.module_name
  pub within : row.index < statement_count m.«module».now
  pub statements : Statements
  pub spells : Spells m.«module».now statements
  pub f : FlatStatement
  pub is : slice_get (flat 0 0 0 statements) row.index ≡ Some f
  pub form : f.form ≡ s.form
  pub place : f.at ≡ s.at
  pub around : (name : List ℕ) × (index : ℕ) × IsBlockOf (placed name [] [] statements) index f.block s.namespace
  pub inside : s.optionals ≡ [] → row.optional ≡ 0

abbrev pub AreFrom : {A : Type 0} → List (NamedModule A) → List Row → List Placed → Type 0
AreFrom parsed [] [] = Unit {0}
AreFrom parsed [] (s ∷ policy) = ⊥
AreFrom parsed (row ∷ rows) [] = ⊥
AreFrom parsed (row ∷ rows) (s ∷ policy) = IsFrom parsed row s × AreFrom parsed rows policy

-- The modules have this one, with this name, at a number.
pub record HaveModule {A : Type 0} (parsed : List (NamedModule A)) (number : ℕ) (module_at : ParsedModule A) (name : List ℕ) : Type 0 where
  pub m : NamedModule A
  pub at : slice_get parsed number ≡ Some m
  pub is : m.«module».now ≡ module_at
  pub named : m.name.now ≡ name

-- the number is that of the innermost optional around a statement in front of a place: its place and 1 more; 0 stands for none
abbrev pub IsAround : List Placed → ℕ → ℕ → Placed → Type 0
IsAround policy place zero s = s.optionals ≡ []
IsAround policy place (suc k) s = (o : Placed) × (id : Word) × (k < place) × (slice_get policy k ≡ Some o) × (o.form ≡ optional id) × (o.module_name ≡ s.module_name) × (s.optionals ≡ o.at.offset ∷ o.optionals)

-- Rows from a place on tell the innermost optionals around their statements.
abbrev pub AreAround : List Placed → ℕ → List Row → List Placed → Type 0
AreAround policy place [] [] = Unit {0}
AreAround policy place [] (s ∷ statements) = ⊥
AreAround policy place (row ∷ rows) [] = ⊥
AreAround policy place (row ∷ rows) (s ∷ statements) = IsAround policy place row.optional s × AreAround policy (place + 1) rows statements

-- The number is that of the namespace inside a block of a module whose statements begin at a place, by the rows.
pub record IsBlockSpace (rows : List Row) (spaces start : ℕ) (number found : ℕ) : Type 0 where
  pub within : found < spaces
  pub global : number ≡ 0 → found ≡ 0
  pub inside : (k : ℕ) (row : Row) → number ≡ suc k → slice_get rows (start + k) ≡ Some row → row.inside < spaces → found ≡ row.inside

-- the numbers are those of the namespaces from which this is looked up
abbrev pub AreBlockSpaces : List Row → ℕ → ℕ → List Citation → List ℕ → Type 0
AreBlockSpaces rows spaces start citations found = (n : ℕ) (c : Citation) → slice_get citations n ≡ Some c
    → IsBlockSpace rows spaces start c.block (slice_index_or found n 0)

-- Each of what a module's statements look up is looked up from the namespace inside its block.
abbrev pub IsSpaced : {A : Type 0} → List (List ℕ) → List (List ℕ) → ParsedModule A → List ℕ → Type 0
IsSpaced names spaces p found = (n : ℕ) (c : Citation) → slice_get (citations_of p) n ≡ Some c
    → (slice_index_or found n 0 < length spaces)
    × ((name : List ℕ) (statements : Statements) (index : ℕ) (namespace : List (List ℕ)) → Spells p statements
    → IsBlockOf (placed name [] [] statements) index c.block namespace → namespace_at names spaces (slice_index_or found n 0) ≡ namespace)

-- the same of each module
abbrev pub AreSpaced : {A : Type 0} → List (List ℕ) → List (List ℕ) → List (NamedModule A) → List (List ℕ) → Type 0
AreSpaced {A} names spaces parsed found = (k : ℕ) (m : NamedModule A) → slice_get parsed k ≡ Some m
    → IsSpaced names spaces m.«module».now (slice_index_or found k [])
