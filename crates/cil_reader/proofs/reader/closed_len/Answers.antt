use Rattle.std.proofs.Common.{arith}
use Rattle.cil_reader.proofs.Going.{not-closed}
use Rattle.cil_reader.proofs.reader.closed_len.Goals as goal
use Rattle.cil_reader.proofs.reader.closed_len.Goals.{else-len-inside-via-then-len-inside+else-inside-len-eq34, else-len-inside-via-else-len-inside}

pub returns-else-len-inside-clause-none : goal.returns-else-len-inside-clause-none
returns-else-len-inside-clause-none c =
    not-closed c.args.inside.now c.string_len-len.result c.string_len-len.ensures (λ less quote. elim c.else-len-inside.branch [
      | else-len-inside-via-then-len-inside+else-inside-len-eq34 w ↦ w.if-inside-len-eq34.false quote
      | else-len-inside-via-else-len-inside w ↦ omega (arith, less)
    ])
