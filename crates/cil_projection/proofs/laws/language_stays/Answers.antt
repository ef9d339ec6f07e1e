use Rattle.cil_projection.proofs.LanguageLemmas.{language_whole, projection_whole, statements_whole}
use Rattle.cil_projection.proofs.laws.language_stays.Goals as goal

pub returns : goal.returns
returns c = record { statements = statements_whole; keywords = language_whole; projection = projection_whole }
