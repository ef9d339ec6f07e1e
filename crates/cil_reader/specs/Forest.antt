-- The trees of a whole text.
use Rattle.cil_specs.specs.Trees.{Trees}
use Rattle.cil_reader.specs.Image.{trees_in}
use Rattle.cil_reader.specs.declared.forest.Forest.{Forest}

abbrev pub forest_of : {A : Type 0} → Forest A → Trees
forest_of forest = trees_in forest.text.now forest.nodes.items
