-- The statements of a module one behind the other.
use Rattle.std.specs.Prelude.{ℕ, ◌+◌, suc, List, [], ◌∷◌, ◌++◌}
use Rattle.cil_specs.specs.Place.{Place}
use Rattle.cil_specs.specs.Statements.{Form, block, optional, Statements, no_more, statement}

-- A statement, with the numbers of the innermost block and of the innermost optional around it. The number of a statement is its index
-- and 1 more; 0 stands for none.
pub record FlatStatement : Type 0 where
  pub at : Place
  pub form : Form
  pub block : ℕ
  pub optional : ℕ

-- the innermost block around the statements inside a statement of an index
abbrev pub block_inside : Form → ℕ → ℕ → ℕ
block_inside (block id) n around = n + 1
block_inside _ n around = around

-- the innermost optional around them
abbrev pub optional_inside : Form → ℕ → ℕ → ℕ
optional_inside (optional id) n around = n + 1
optional_inside _ n around = around

-- how many statements there are, those inside others too
abbrev pub count : Statements → ℕ
count no_more = 0
count (statement at form body more) = suc (count body + count more)

-- the statements from an index on, in the order of the text, those inside a statement behind it
abbrev pub flat : ℕ → ℕ → ℕ → Statements → List FlatStatement
flat in_block in_optional n no_more = []
flat in_block in_optional n (statement at form body more) =
    record { at = at; form = form; block = in_block; optional = in_optional }
    ∷ (flat (block_inside form n in_block) (optional_inside form n in_optional) (n + 1) body ++ flat in_block in_optional (n + 1 + count body) more)
