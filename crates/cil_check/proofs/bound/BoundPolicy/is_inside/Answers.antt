use Rattle.cil_check.proofs.Common.{◌<◌, length, arith, rules}
use Rattle.cil_check.proofs.KnownLemmas.{from-there}
use Rattle.cil_check.proofs.SeenLemmas.{is-long}
use Rattle.cil_check.proofs.bound.BoundPolicy.is_inside.Goals as goal

pub index-requires : goal.index-requires
index-requires g c =
    let long = is-long c.args.self.now c.requires.0 c.requires.1 in
    let less = c.requires.2 in
    let low : c.args.i < length c.args.self.now.policy.now.rows.items = omega (arith, long, less) in
    search rules

pub returns : goal.returns
returns g c = λ yes policy s is at none.
    let zero = (from-there c.args.self.now policy c.args.i c.index.result.now s is at c.index.ensures).inside none in
    search rules
