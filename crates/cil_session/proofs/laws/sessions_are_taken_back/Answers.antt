use Rattle.cil_session.proofs.LawLemmas.{left-taken-back}
use Rattle.cil_session.proofs.laws.sessions_are_taken_back.Goals as goal

pub returns : goal.returns
returns g = left-taken-back
