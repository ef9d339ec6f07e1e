use Rattle.cil_expression.proofs.SpellingLemmas.{expr-is, whole}
use Rattle.cil_expression.proofs.expression.Expression.new.Goals as goal

pub invariant_of-result : goal.invariant_of-result
invariant_of-result g c = record { spelt = whole c.args.nodes.items c.args.names.items c.requires.spelt }

pub returns : goal.returns
returns g c = expr-is c.args.nodes.items c.args.names.items
