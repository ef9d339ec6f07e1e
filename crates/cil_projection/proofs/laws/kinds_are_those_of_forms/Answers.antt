use Rattle.cil_projection.proofs.LanguageLemmas.{kinds_of_forms}
use Rattle.cil_projection.proofs.laws.kinds_are_those_of_forms.Goals as goal

pub returns : goal.returns
returns c = kinds_of_forms
