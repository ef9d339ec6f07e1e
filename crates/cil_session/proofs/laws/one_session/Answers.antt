use Rattle.cil_session.proofs.LawLemmas.{sessions-same}
use Rattle.cil_session.proofs.laws.one_session.Goals as goal

pub returns : goal.returns
returns g = sessions-same
