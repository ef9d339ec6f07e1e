use Rattle.std.proofs.Common.{arith}
use Rattle.cil_keyed_lines.proofs.NameLemmas.{line_within}
use Rattle.cil_keyed_lines.proofs.names.Names.end.Goals as goal

pub loop-end-init : goal.loop-end-init
loop-end-init g c = record {
  within = omega (arith, c.len-end.ensures);
  named = rw (← c.self.view_is) (λ p some. omega (arith, line_within c.self.inside.named.items c.self.inside.users.items c.self.invariant.counted p some, c.len-end.ensures));
}
