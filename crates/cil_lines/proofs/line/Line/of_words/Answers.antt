use Rattle.cil_lines.proofs.StepLemmas.{ones_are, ones_below}
use Rattle.cil_lines.proofs.line.Line.of_words.Goals as goal

pub returns : goal.returns
returns g c t = ones_are c.of_words.result c.new.result.items c.args.words.items c.of_words.ensures.bits c.new.ensures.items t

pub invariant_of-result : goal.invariant_of-result
invariant_of-result g c = ones_below c.of_words.result c.new.result.items c.args.words.items c.of_words.ensures.bits c.of_words.ensures.places c.new.ensures.items
