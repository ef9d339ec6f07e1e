use Rattle.std.proofs.Common.{arith}
use Rattle.cil_reader.proofs.Nodes.{count-nodes}
use Rattle.cil_reader.proofs.tree.TreeSlice.len.Goals as goal

pub returns : goal.returns
returns c = omega (arith, c.loop-count.invariant, c.loop-count-test.false, count-nodes c.args.self.text.now c.args.self.nodes.now)
