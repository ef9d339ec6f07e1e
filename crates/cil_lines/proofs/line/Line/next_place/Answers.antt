use Rattle.cil_lines.proofs.Common.{bits_of, total}
use Rattle.cil_lines.proofs.line.Line.next_place.Goals as goal

pub returns : goal.returns
returns g c =
    let higher = rw c.deref.ensures.value at c.next_place-2.ensures in
    rw (← c.self.view_is) (c.earlier.ensures (bits_of c.self.inside.lowest) (total c.self.inside.higher.items) c.args.from c.next_place.ensures higher)
