use Rattle.cil_lines.proofs.DigitLemmas.{no_bits}
use Rattle.cil_lines.proofs.digit.Digit.new.Goals as goal

pub returns : goal.returns
returns g c w = rw (c.new.ensures.items, c.new-2.ensures.items) (no_bits w)
