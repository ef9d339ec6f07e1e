use Rattle.std.proofs.Common.{arith, subst}
use Rattle.std.specs.List.{IsDistinct}
use Rattle.cil_keyed_lines.proofs.KeyedLemmas.{count_none, same_eq}
use Rattle.cil_keyed_lines.proofs.KeyLemmas.{shared_none}
use Rattle.cil_keyed_lines.proofs.keyed_lines.KeyedLines.new.Goals as goal

pub invariant_of-result : goal.invariant_of-result
invariant_of-result g c =
    shared_none c.new.result.keys c.new-2.result c.new-3.result (subst (λ same. IsDistinct same c.new.result.keys) same_eq c.new.ensures.unique) (omega (arith, c.new.ensures.len)) c.new-2.ensures.named c.new-2.ensures.log
    c.new-2.ensures.lines c.new-3.ensures.lines (c.new-3.ensures.now 0) (c.new-3.ensures.before 0)

pub returns-clause-now : goal.returns-clause-now
returns-clause-now g c = count_none _ c.new.result.keys (λ p t. c.new-3.ensures.now _ t)

pub returns-clause-before : goal.returns-clause-before
returns-clause-before g c = count_none _ c.new.result.keys (λ p t. c.new-3.ensures.before _ t)
