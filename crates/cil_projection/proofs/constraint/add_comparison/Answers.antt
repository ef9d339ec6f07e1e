use Rattle.std.proofs.Common.{refl}
use Rattle.cil_reader.specs.Common.{trees_of}
use Rattle.cil_projection.specs.Forms.{comparison}
use Rattle.cil_projection.proofs.FormLemmas.{without_word}
use Rattle.cil_projection.proofs.constraint.add_comparison.Goals as goal

pub returns-in_default : goal.returns-in_default
returns-in_default g c = without_word comparison refl (λ at text rest. refl) (λ at end items rest. refl) (trees_of c.args.operands) c.in_default.ensures
