use Rattle.cil_session.proofs.LawLemmas.{session-ordered, session-within, session-texts, session-meant}
use Rattle.cil_session.proofs.laws.sessions_keep_stores.Goals as goal

pub returns : goal.returns
returns g = record { ordered = session-ordered; within_limits = session-within; good_texts = session-texts; meaning = session-meant }
