use Rattle.cil_rule_shifts.specs.Reach.{is_present}
use Rattle.cil_rule_shifts.proofs.ReachLemmas.{present-word}
use Rattle.cil_rule_shifts.proofs.words.next_line_word.Goals as goal

pub returns : goal.returns
returns g c =
    let was = c.args.was.now in
    let is = c.args.is.now in
    c.earlier.ensures (is_present was) (is_present is) c.args.from (present-word was c.args.from c.next_present_word.result c.next_present_word.ensures)
    (present-word is c.args.from c.next_present_word-2.result c.next_present_word-2.ensures)
