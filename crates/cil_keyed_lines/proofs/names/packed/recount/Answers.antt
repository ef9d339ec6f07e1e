use Rattle.cil_keyed_lines.proofs.Common.{arith, slice_index, take}
use Rattle.std.proofs.lemmas.List.{length-take-le}
use Rattle.cil_keyed_lines.proofs.NameLemmas.{uses_most}
use Rattle.cil_keyed_lines.proofs.names.packed.recount.Goals as goal

pub join-requires-clause-fits : goal.join-requires-clause-fits
join-requires-clause-fits g c some =
    let i = c.loop-line.line-index in
    let line = slice_index c.args.named.now i in
    omega (arith, c.loop-line.invariant.counted line some, uses_most (take i c.args.named.now) line, length-take-le i c.args.named.now (omega (arith, c.loop-line.auto.line-index-end)))
