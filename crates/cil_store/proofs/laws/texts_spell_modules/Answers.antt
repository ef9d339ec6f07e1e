use Rattle.cil_store_specs.proofs.LimitLemmas.{empty-texts, taken-texts, run-texts}
use Rattle.cil_store.proofs.laws.texts_spell_modules.Goals as goal

pub returns : goal.returns
returns g = record { empty = empty-texts; taken = taken-texts; run = run-texts }
