use Rattle.cil_violations.proofs.Common.{inl, inr}
use Rattle.cil_violations.proofs.ClassLemmas.{classes-either}
use Rattle.cil_violations.proofs.ResultLemmas.{ok-more}
use Rattle.cil_violations.proofs.search.Search.classes.Goals as goal

pub returns-then-second-first : goal.returns-then-second-first
returns-then-second-first g c =
    ok-more c.shared_classes.result
    (λ list ordered. classes-either c.args.self.now c.requires.search c.args.never c.args.allowed c.requires.never c.given-first.result.now c.given-second.result.now c.given-first.ensures c.given-second.ensures list.items (inr ordered))
    c.shared_classes.ensures

pub returns-else-second-first : goal.returns-else-second-first
returns-else-second-first g c =
    ok-more c.shared_classes-else-second-first.result
    (λ list ordered. classes-either c.args.self.now c.requires.search c.args.never c.args.allowed c.requires.never c.given-first.result.now c.given-second.result.now c.given-first.ensures c.given-second.ensures list.items (inl ordered))
    c.shared_classes-else-second-first.ensures
