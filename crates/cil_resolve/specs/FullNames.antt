-- Full names of what statements declare.
use Rattle.std.specs.Prelude.{ℕ, zero, suc, Bool, true, false, List, [], ◌∷◌, ◌++◌, slice_index_or, is_some, Option, Some, None}
use Rattle.cil_specs.specs.Names.{Word}
use Rattle.cil_specs.specs.Statements.{Form, type_name, type_attribute, class, class_permission}
use Rattle.cil_specs.specs.Joined.{Placed}
use Rattle.cil_specs.specs.Lookup.{full_name}
use Rattle.cil_parse.specs.declared.row.StatementKind.{StatementKind}
use Rattle.cil_parse.specs.declared.row.StatementKind.TheVariants as kinds

-- the name of a namespace: the names of its blocks from the outside in, joined by dots
abbrev pub space_text : List (List ℕ) → List ℕ
space_text [] = []
space_text (inner ∷ outer) = full_name outer inner

-- a name in the namespace of this number, by the names of the namespaces
abbrev pub name_in : List (List ℕ) → ℕ → List ℕ → List ℕ
name_in spaces zero name = name
name_in spaces (suc n) name = slice_index_or spaces (suc n) [] ++ 46 ∷ name

-- the name that a statement declares, if it declares a type, an attribute, a class or a permission set
abbrev pub numbered_id : Form → Option Word
numbered_id (type_name id) = Some id
numbered_id (type_attribute id) = Some id
numbered_id (class id permissions) = Some id
numbered_id (class_permission id) = Some id
numbered_id _ = None

-- whether a statement declares a name that has a number
abbrev pub is_numbered : Form → Bool
is_numbered form = is_some (numbered_id form)

-- the same of a statement's kind
abbrev pub is_numbered_kind : StatementKind → Bool
is_numbered_kind kinds.TypeName = true
is_numbered_kind kinds.TypeAttribute = true
is_numbered_kind kinds.Class = true
is_numbered_kind kinds.ClassPermission = true
is_numbered_kind _ = false

abbrev pub full_name_or : List (List ℕ) → Option Word → List ℕ
full_name_or namespace None = []
full_name_or namespace (Some id) = full_name namespace id.text

-- the full name of the type, the attribute, the class or the permission set that a statement declares, and nothing where it declares none
abbrev pub full_name_of : Placed → List ℕ
full_name_of s = full_name_or s.namespace (numbered_id s.form)
