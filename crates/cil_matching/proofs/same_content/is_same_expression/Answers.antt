use Rattle.cil_matching.proofs.Common.{is_number_of}
use Rattle.cil_matching.proofs.same_content.is_same_expression.Goals as goal

pub returns : goal.returns
returns g c = c.is_same.ensures (is_number_of c.args.numbers.now) (λ a b answer here there post. post)
