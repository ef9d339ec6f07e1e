use Rattle.std.proofs.Common.{◌<◌, length, rules, arith}
use Rattle.cil_check.proofs.SeenLemmas.{is-long}
use Rattle.cil_resolve.proofs.StatementLemmas.{module-named}
use Rattle.cil_resolve.proofs.lowering.Lowering.module.Goals as goal

pub index-requires : goal.index-requires
index-requires g c =
    let (policy, is, low) = c.requires in
    let bound = c.args.self.now.checker.now.bound in
    let long = is-long bound policy is.noted.is in
    let below : c.args.i < length bound.policy.now.rows.items = omega (arith, long, low) in
    search rules

pub returns : goal.returns
returns g c policy s is at = module-named c.args.self.now.checker.now.bound policy c.args.i c.index.result.now s is.noted.is at c.index.ensures
