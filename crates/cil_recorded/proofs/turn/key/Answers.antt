use Rattle.std.proofs.Common.{rules}
use Rattle.cil_recorded.specs.Differences.{key_of}
use Rattle.cil_recorded.proofs.turn.key.Goals as goal

pub returns : goal.returns
unfolding key_of
returns c = search rules
