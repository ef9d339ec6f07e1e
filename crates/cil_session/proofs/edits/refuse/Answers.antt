use Rattle.std.proofs.Common.{refl}
use Rattle.cil_store_specs.specs.Answers.{a_refusal}
use Rattle.cil_session.proofs.SessionLemmas.{tries-told}
use Rattle.cil_session.proofs.edits.refuse.Goals as goal

pub returns : goal.returns
returns g c = tries-told (a_refusal c.args.code c.args.word.now) _ refl c.write_store_refusal.ensures c.and.ensures
