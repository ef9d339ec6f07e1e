-- The module that a text spells, and the fault of a text that spells none.
use Rattle.std.specs.Prelude.{ℕ, false, List}
use Rattle.cil_specs.specs.TextFault.{TextFault}
use Rattle.cil_specs.specs.Trees.{Trees, Reads}
use Rattle.cil_specs.specs.Reading.{IsReadingFault}
use Rattle.cil_specs.specs.Statements.{Statements}
use Rattle.cil_specs.specs.Shape.{Shapes, IsFirstShapeFault}

-- the text spells the statements
pub record IsModuleText (bytes : List ℕ) (statements : Statements) : Type 0 where
  pub trees : Trees
  pub reads : Reads bytes trees
  pub shapes : Shapes false trees statements

-- the fault of a text: that of reading it, or else the first of its shape
pub data IsTextFault (bytes : List ℕ) (fault : TextFault) : Type 0 where
  in_reading : IsReadingFault bytes fault → IsTextFault bytes fault
  in_shape : (trees : Trees) → Reads bytes trees → IsFirstShapeFault trees fault → IsTextFault bytes fault
