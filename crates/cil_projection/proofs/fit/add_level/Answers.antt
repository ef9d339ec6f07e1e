use Rattle.std.proofs.Common.{refl}
use Rattle.cil_reader.specs.Common.{trees_of}
use Rattle.cil_projection.specs.Forms.{level}
use Rattle.cil_projection.proofs.FormLemmas.{without_word}
use Rattle.cil_projection.proofs.fit.add_level.Goals as goal

pub returns-in_default : goal.returns-in_default
returns-in_default g c = without_word level refl (λ at text rest. refl) (λ at end items rest. refl) (trees_of c.args.items) c.in_default.ensures
