use Rattle.cil_reader.proofs.Common.{◌≡◌, ◌-◌, List, length, Part, IsPlaced, HasRead}
use Rattle.cil_reader.proofs.reader.read_parts.Given as goal

abbrev pub invariant-loop-reader : goal.invariant-loop-reader
invariant-loop-reader g l = record {
  same : l.reader.text.now ≡ l.text;
  placed : IsPlaced l.reader;
  read : (parts : List Part) × HasRead l.reader parts;
}

abbrev pub decreases-loop-reader : goal.decreases-loop-reader
decreases-loop-reader g l = length l.text - l.reader.at.offset
