use Rattle.std.proofs.Common.{◌∙◌, sym, ap, inr, refl}
use Rattle.cil_reader.specs.Common.{forest_of, word_of}
use Rattle.cil_projection.specs.Statements.{first_marked}
use Rattle.cil_projection.proofs.projecting.project.Goals as goal

pub returns-in-Some-clause-err : goal.returns-in-Some-clause-err
returns-in-Some-clause-err g c =
    inr (forest_of c.in_ok-forest.forest, word_of c.in-Some.word, c.in_ok-forest.ensures.ok, ap first_marked (sym c.trees.ensures) ∙ sym c.in-Some.ensures, refl)
