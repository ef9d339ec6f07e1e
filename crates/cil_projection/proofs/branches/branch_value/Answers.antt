use Rattle.std.proofs.Common.{sym, refl}
use Rattle.cil_reader.specs.Common.{trees_of}
use Rattle.cil_projection.specs.Conditions.{branch_value}
use Rattle.cil_projection.proofs.FormLemmas.{without_word}
use Rattle.cil_projection.proofs.branches.branch_value.Goals as goal

pub returns-in_default : goal.returns-in_default
returns-in_default c = sym (without_word branch_value refl (λ at text rest. refl) (λ at end items rest. refl) (trees_of c.args.items) c.in_default.ensures)
