-- Modules that are spelt by texts.
use Rattle.std.specs.Prelude.{◌≡◌, ℕ, false, List, [], ◌∷◌, IfSome, IsTrue, Contains}
use Rattle.std.specs.List.{AllByRecursion}
use Rattle.cil_specs.specs.Names.{Word, is_name, components}
use Rattle.cil_specs.specs.Trees.{Trees, Reads}
use Rattle.cil_specs.specs.Shape.{Shapes}
use Rattle.cil_specs.specs.Joined.{Module, Placed}
use Rattle.cil_specs.specs.Lookup.{types, classes, permission_sets, declared_in}
use Rattle.cil_parse.specs.Forms.{permissions_in}

-- a text spells the statements of the module
pub record IsWritten (m : Module) : Type 0 where
  pub bytes : List ℕ
  pub trees : Trees
  pub reads : Reads bytes trees
  pub shapes : Shapes false trees m.statements

-- so it is of each of them
abbrev pub AreWritten : List Module → Type 0
AreWritten modules = AllByRecursion IsWritten modules

-- a word is one name, without dots
abbrev pub IsOneName : Word → Type 0
IsOneName word = components word.text ≡ word.text ∷ []

-- a text is spelt as a declared name
abbrev pub IsName : List ℕ → Type 0
IsName text = IsTrue (is_name text)

-- What a statement declares as a type, an alias or an attribute, as a class or as a permission set has a name without dots, and so have
-- the blocks around it and the permissions that it names.
pub record HasOneNames (s : Placed) : Type 0 where
  pub declared : IfSome (declared_in types s.form) (λ word. IsName word.text)
  pub declared_class : IfSome (declared_in classes s.form) (λ word. IsName word.text)
  pub declared_set : IfSome (declared_in permission_sets s.form) (λ word. IsName word.text)
  pub blocks : AllByRecursion IsName s.namespace
  pub permissions : AllByRecursion IsOneName (permissions_in s.form)

-- so it is of each statement
abbrev pub HaveOneNames : List Placed → Type 0
HaveOneNames policy = (s : Placed) → Contains policy s → HasOneNames s
