use Rattle.cil_resolve.proofs.Common.{slice_get_within}
use Rattle.cil_resolve.proofs.StatementLemmas.{seen-in}
use Rattle.cil_resolve.proofs.lowering.Lowering.seen.Goals as goal

pub seen-requires : goal.seen-requires
seen-requires g c =
    let (policy, s, is, at) = c.requires in
    record { is = (policy, is.noted.is, slice_get_within policy c.args.i s at) }

pub returns : goal.returns
returns g c policy s is at =
    seen-in c.args.self.now c.seen.result policy s c.args.i is at (c.seen.ensures.seen policy s is.noted.is at) (c.seen.ensures.worded policy is.noted.is)
