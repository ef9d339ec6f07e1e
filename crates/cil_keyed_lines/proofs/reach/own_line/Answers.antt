use Rattle.cil_keyed_lines.proofs.Common.{arith, length, named_at, uses, ◌≡◌, ◌≢◌}
use Rattle.cil_keyed_lines.proofs.ReachLemmas.{own_users}
use Rattle.cil_keyed_lines.proofs.reach.own_line.Goals as goal

pub returns-then-users-group-clause-own : goal.returns-then-users-group-clause-own
returns-then-users-group-clause-own g c =
    let line = (named_at c.args.group.now 0).line in
    let some : line ≢ 0 = omega arith in
    let many : uses c.args.names.now.named line ≡ length c.args.group.now = omega arith in
    own_users c.args.group.now c.args.names.now c.requires.named c.requires.line some many
