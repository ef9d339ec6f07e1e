use Rattle.cil_lines.proofs.DigitLemmas.{words_are, place-dense}
use Rattle.cil_lines.proofs.digit.Digit.of_words.Goals as goal

pub returns-clause-bits : goal.returns-clause-bits
returns-clause-bits g c w = rw c.new.ensures.items (words_are c.args.words.items w)

pub returns-clause-places : goal.returns-clause-places
returns-clause-places g c w within = place-dense _ w within
