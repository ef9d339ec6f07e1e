use Rattle.std.proofs.Common.{◌≡◌, length, rules}
use Rattle.cil_check.proofs.SeenLemmas.{is-long}
use Rattle.cil_check.proofs.bound.BoundPolicy.len.Goals as goal

pub returns : goal.returns
returns g c policy is = let long : length c.args.self.now.policy.now.rows.items ≡ length policy = is-long c.args.self.now policy is in search rules
