-- The nodes of a policy by numbers: none at 0; then its statements, of which the optionals count; and then its statements once more, for the
-- names that they declare.
use Rattle.std.specs.Prelude.{◌≡◌, ℕ, suc, ◌+◌, Bool, true, false, ◌&&◌, List, [], ◌∷◌, length, slice_get, is_some, Some, IsTrue, if◌then◌else◌}
use Rattle.cil_specs.specs.Names.{components}
use Rattle.cil_specs.specs.Statements.{Form, block, optional, type_name, type_alias, type_attribute, common, class, class_permission, is_optional}
use Rattle.cil_specs.specs.Joined.{Placed}
use Rattle.cil_specs.specs.Lookup.{Table, types, classes, commons, permission_sets, scopes, declared_in, word_text, outward, is_global}
use Rattle.cil_specs.specs.Kept.{Optionals, is_within, restricted}

-- the table in which a statement declares its name
abbrev pub declared_table : Form → Table
declared_table (class id permissions) = classes
declared_table (common id permissions) = commons
declared_table (class_permission id) = permission_sets
declared_table (block id) = scopes
declared_table (optional id) = scopes
declared_table _ = types

-- the name that it declares
abbrev pub declared_text : Form → List ℕ
declared_text form = word_text (declared_in (declared_table form) form)

-- whether a statement declares a name that isn't that of a block or an optional
abbrev pub is_naming : Form → Bool
is_naming (type_name id) = true
is_naming (type_alias id) = true
is_naming (type_attribute id) = true
is_naming (common id permissions) = true
is_naming (class id permissions) = true
is_naming (class_permission id) = true
is_naming _ = false

-- whether the name that a statement declares, if any, is found from its namespace, as a plain name
abbrev pub is_provided : List Placed → Placed → Bool
is_provided policy s = if is_naming s.form then is_some (outward policy (declared_table s.form) s.namespace (declared_text s.form)) else true

-- whether names are a single one
abbrev pub is_single : List (List ℕ) → Bool
is_single [] = false
is_single (name ∷ []) = true
is_single (name ∷ next ∷ more) = false

-- whether a reference is a plain name, which is looked up outward
abbrev pub is_plain : List ℕ → Bool
is_plain text = if is_global text then false else is_single (components text)

-- none is there; an optional is there if it and all around it are in the set
pub record AreOptionalsOf (policy : List Placed) (set : Optionals) (has : ℕ → Bool) : Type 0 where
  pub none : has 0 ≡ true
  pub optional_is : (k : ℕ) (s : Placed) → slice_get policy k ≡ Some s → IsTrue (is_optional s.form) → has (suc k) ≡ (set s.module_name s.at.offset && is_within set s)

-- and a name is there if it is found
pub record AreNodesOf (policy : List Placed) (set : Optionals) (has : ℕ → Bool) : Type 0 where
  pub optionals_are : AreOptionalsOf policy set has
  pub name_is : (p : ℕ) (s : Placed) → slice_get policy p ≡ Some s → has (length policy + 1 + p) ≡ is_provided (restricted set policy) s
