use Rattle.std.proofs.Common.{length, ap, arith}
use Rattle.cil_lookup.proofs.NamespaceLemmas.{length-spaces_of}
use Rattle.cil_lookup.proofs.namespaces.Namespaces.len.Goals as goal

pub returns-clause-len : goal.returns-clause-len
returns-clause-len g c =
    let long = length-spaces_of c.self.inside.blocks.keys in
    let all = ap length c.self.view_is in
    omega arith
