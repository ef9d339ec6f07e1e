use Rattle.std.proofs.Common.{ap, arith, ◌∙◌}
use Rattle.cil_recorded.proofs.LogLemmas.{hit_nothing}
use Rattle.cil_recorded.specs.Log.{hit_at}
use Rattle.cil_keyed_lines.proofs.line_moves.raise.Goals as goal

pub returns-then-mask-eq0-clause-now : goal.returns-then-mask-eq0-clause-now
returns-then-mask-eq0-clause-now g c l t = omega (arith, ap (λ m. hit_at c.args.line c.args.word m l t) c.if-mask-eq0.true ∙ hit_nothing c.args.line c.args.word l t)
