use Rattle.cil_lines.proofs.Common.{arith, count_of}
use Rattle.cil_lines.proofs.LineLemmas.{some_present}
use Rattle.cil_lines.proofs.line.Line.next_present_word.Goals as goal

pub returns-then-present-ne0 : goal.returns-then-present-ne0
returns-then-present-ne0 g c =
    record {
      from_on = omega arith;
      present = some_present (count_of c.args.self.now) c.args.from c.present.result c.present.ensures c.present.type_inv c.if-present-ne0.true;
      first = λ t on upto. absurd (omega (arith, on, upto));
    }
