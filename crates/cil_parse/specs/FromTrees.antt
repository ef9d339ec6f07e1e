-- Statements that are kept as soon as they are made from their trees.
use Rattle.std.specs.Prelude.{[], false}
use Rattle.cil_specs.specs.Trees.{Trees}
use Rattle.cil_specs.specs.Statements.{Statements}
use Rattle.cil_specs.specs.Shape.{Shapes}
use Rattle.cil_parse.specs.Flat.{flat}
use Rattle.cil_parse.specs.Builder.{IsAt, Places}
use Rattle.cil_parse.specs.Parsed.{Spells}
use Rattle.cil_parse.specs.declared.builder.Builder.{Builder}
use Rattle.cil_parse.specs.declared.row.Around.{Around}
use Rattle.cil_parse.specs.declared.parsed.ParsedModule.{ParsedModule}

-- the statements that the trees spell came, with these around them
pub record PlacesTrees {A : Type 0} (old new : Builder A) (around : Around) (trees : Trees) : Type 0 where
  pub statements : Statements
  pub shapes : Shapes false trees statements
  pub places : Places old new around statements

-- the statements that the trees spell were gone over, and no others
pub record IsAtTrees {A : Type 0} (trees : Trees) (b : Builder A) : Type 0 where
  pub statements : Statements
  pub shapes : Shapes false trees statements
  pub at : IsAt b (flat 0 0 0 statements) [] []

-- the module has the statements that the trees spell
pub record SpellsTrees {A : Type 0} (trees : Trees) (p : ParsedModule A) : Type 0 where
  pub statements : Statements
  pub shapes : Shapes false trees statements
  pub spells : Spells p statements
