use Rattle.std.proofs.Common.{◌<◌, ◌^◌, rules}
use Rattle.std.proofs.lemmas.Bool.{eqb-false}
use Rattle.cil_recorded.proofs.TurnLemmas.{key_is}
use Rattle.cil_recorded.proofs.turn.is_same_word.Goals as goal

pub returns-then-first-second-clause-other : goal.returns-then-first-second-clause-other
returns-then-first-second-clause-other c differ same =
    let first : c.args.first.now.word < 2 ^ 64 = search rules in
    let second : c.args.second.now.word < 2 ^ 64 = search rules in
    eqb-false _ _ differ (key_is c.args.first.now.line c.args.second.now.line c.args.first.now.word c.args.second.now.word first second same).1

pub returns-else-first-second-clause-other : goal.returns-else-first-second-clause-other
returns-else-first-second-clause-other c differ same =
    let first : c.args.first.now.word < 2 ^ 64 = search rules in
    let second : c.args.second.now.word < 2 ^ 64 = search rules in
    c.if-first-second.false (key_is c.args.first.now.line c.args.second.now.line c.args.first.now.word c.args.second.now.word first second same).0
