use Rattle.cil_specs.proofs.GrowsLemmas.{leads-grows}
use Rattle.cil_resolve.proofs.laws.found_grows.Goals as goal

pub returns : goal.returns
returns g = λ kept more policy table namespace text apart within found. leads-grows kept more policy apart table within namespace text found
