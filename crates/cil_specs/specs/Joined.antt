-- The joined policy: the statements of several modules.
use Rattle.std.specs.Prelude.{ℕ, List, [], ◌∷◌, ◌++◌, flat_map}
use Rattle.cil_specs.specs.Place.{Place}
use Rattle.cil_specs.specs.Statements.{Form, block, optional, Statements, no_more, statement}

-- a module's name and its statements
pub record Module : Type 0 where
  pub name : List ℕ
  pub statements : Statements

-- A statement of the joined policy: its module, the place of its ( and what it says; its namespace, which is the names of the
-- blocks around it, the innermost first; and the offsets of the optionals around it, the innermost first.
pub record Placed : Type 0 where
  pub module_name : List ℕ
  pub at : Place
  pub form : Form
  pub namespace : List (List ℕ)
  pub optionals : List ℕ

-- the namespace of the statements inside a statement
abbrev pub namespace_inside : Form → List (List ℕ) → List (List ℕ)
namespace_inside (block id) namespace = id.text ∷ namespace
namespace_inside _ namespace = namespace

-- the optionals around the statements inside a statement at a place
abbrev pub optionals_inside : Form → Place → List ℕ → List ℕ
optionals_inside (optional id) at optionals = at.offset ∷ optionals
optionals_inside _ at optionals = optionals

-- the statements in the order of the text, those inside a statement behind it
abbrev pub placed : List ℕ → List (List ℕ) → List ℕ → Statements → List Placed
placed name namespace optionals no_more = []
placed name namespace optionals (statement at form body more) =
    record { module_name = name; at = at; form = form; namespace = namespace; optionals = optionals }
    ∷ (placed name (namespace_inside form namespace) (optionals_inside form at optionals) body ++ placed name namespace optionals more)

-- the statements of the modules, one module after the other
abbrev pub joined : List Module → List Placed
joined modules = flat_map (λ m. placed m.name [] [] m.statements) modules
