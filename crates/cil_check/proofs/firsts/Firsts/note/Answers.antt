use Rattle.cil_check.proofs.Common.{None, Some, refl}
use Rattle.cil_check.proofs.FirstsLemmas.{firsts-next}
use Rattle.cil_check.proofs.firsts.Firsts.note.Goals as goal

pub returns : goal.returns
returns g c = λ policy s seen at so_far.
    firsts-next c.args.association policy c.args.place s (Some c.in-Some.to) c.args.self.now c.insert.new.self at (c.in-Some.ensures policy s seen) c.in_ok-insert.ensures.ok so_far

pub returns-in_default : goal.returns-in_default
returns-in_default g c = λ policy s seen at so_far.
    firsts-next c.args.association policy c.args.place s None c.args.self.now c.args.self.now at (c.in_default.ensures policy s seen) refl so_far
