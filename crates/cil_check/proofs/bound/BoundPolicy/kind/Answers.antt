use Rattle.std.proofs.Common.{◌<◌, length, ◌∙◌, arith, rules}
use Rattle.cil_bind.proofs.BindingLemmas.{kind-at}
use Rattle.cil_check.proofs.SeenLemmas.{kinds-long}
use Rattle.cil_check.proofs.bound.BoundPolicy.kind.Goals as goal

pub index-requires : goal.index-requires
index-requires g c =
    let long = kinds-long c.args.self.now c.requires.0 c.requires.1 in
    let less = c.requires.2 in
    let low : c.args.i < length c.args.self.now.policy.now.kinds.items = omega (arith, long, less) in
    search rules

pub returns : goal.returns
returns g c policy s is at =
    c.index.ensures ∙ kind-at policy c.args.self.now.policy.now.kinds.items c.args.i s c.index.result.now is.bound.kinds at
