use Rattle.std.proofs.lemmas.Result.{on_ok_weaker}
use Rattle.cil_symbol_changes.proofs.ChangeLemmas.{in-line, in-no_line, known-word}
use Rattle.cil_symbol_changes.proofs.appeared.push_change.Goals as goal

pub push_targets-requires-clause-known : goal.push_targets-requires-clause-known
push_targets-requires-clause-known g c =
    known-word c.args.numbers.now c.args.lines.now c.args.change.now.line c.args.change.now.word c.args.change.now.appeared c.in-Some.key c.in-Some.ensures c.requires.known

pub returns-in-Some : goal.returns-in-Some
returns-in-Some g c =
    on_ok_weaker c.push_targets.result
    (in-line c.args.numbers.now c.args.lines.now c.args.change.now.line c.args.change.now.word c.args.change.now.appeared c.in-Some.key _ _ c.in-Some.ensures)
    c.push_targets.ensures

pub returns-in-None : goal.returns-in-None
returns-in-None g c = in-no_line c.args.numbers.now c.args.lines.now c.args.change.now.line c.args.change.now.word c.args.change.now.appeared _ c.in-None.ensures
