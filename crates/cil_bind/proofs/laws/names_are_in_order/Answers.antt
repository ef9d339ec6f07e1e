use Rattle.std.proofs.Common.{subst}
use Rattle.std.specs.Prelude.{IsTrue}
use Rattle.cil_specs.specs.Report.{names_rise}
use Rattle.cil_bind.proofs.OrderedLemmas.{spelt-names}
use Rattle.cil_bind.proofs.laws.names_are_in_order.Goals as goal

pub returns : goal.returns
returns g c = λ modules are. subst (λ names. IsTrue (names_rise names)) (spelt-names c.args.joined.now.modules.items modules are) c.args.joined.now.ordered
