use Rattle.std.proofs.Common.{◌∙◌, sym}
use Rattle.cil_violations.proofs.MetLemmas.{met-same}
use Rattle.cil_violations.proofs.search.Search.bring.Goals as goal

pub returns-in_ok-meet-clause-known : goal.returns-in_ok-meet-clause-known
returns-in_ok-meet-clause-known g c = λ set i is at.
    c.in_ok-meet.ensures ∙ met-same c.args.self.now c.requires.search c.args.never i set (sym c.set_of-set.ensures ∙ is) at
