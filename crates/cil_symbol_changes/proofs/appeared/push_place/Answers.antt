use Rattle.cil_symbol_changes.proofs.ChangeLemmas.{in-no_change, known-one}
use Rattle.cil_symbol_changes.proofs.appeared.push_place.Goals as goal

pub push_change-requires-clause-known : goal.push_change-requires-clause-known
push_change-requires-clause-known g c =
    known-one c.args.numbers.now c.args.lines.now c.args.changes.now c.args.place c.if-place-changes.true c.requires.known

pub returns-else-place-changes : goal.returns-else-place-changes
returns-else-place-changes g c =
    in-no_change c.args.numbers.now c.args.lines.now c.args.changes.now c.args.place
    c.args.growing.now.chunks.items c.if-place-changes.false
