use Rattle.cil_session.proofs.Common.{refl, for_memory, refused, answer_of}
use Rattle.cil_session.proofs.SessionLemmas.{tries-told}
use Rattle.cil_session.proofs.edits.refuse_for_memory.Goals as goal

pub returns : goal.returns
returns g c = tries-told (answer_of (refused for_memory)) _ refl c.write_no_memory.ensures c.and.ensures
