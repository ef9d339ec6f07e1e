use Rattle.std.proofs.Common.{arith}
use Rattle.std.proofs.lemmas.Result.{on_ok_weaker}
use Rattle.cil_accesses.proofs.Shifts.{low-targets, high-targets, both-words}
use Rattle.cil_accesses.proofs.renumber.push_moved.Goals as goal

pub push_word-requires-clause-bits : goal.push_word-requires-clause-bits
push_word-requires-clause-bits g c =
    low-targets c.args.numbers.now c.args.chunk.now c.args.up (omega arith) c.requires.up c.moved_up-low.result.0 c.moved_up-low.ensures.low

pub push_word-requires-2-clause-bits : goal.push_word-requires-2-clause-bits
push_word-requires-2-clause-bits g c =
    high-targets c.args.numbers.now c.args.chunk.now c.args.up (omega arith) c.requires.up c.moved_up-low.result.1 c.moved_up-low.ensures.high

pub returns-clause-same : goal.returns-clause-same
returns-clause-same g c =
    on_ok_weaker c.push_word-2.result
    (both-words c.args.numbers.now c.args.chunk.now c.args.up (omega arith) c.requires.up c.args.made.now.items c.push_word.new.made.items c.push_word-2.new.made.items c.in_ok-push_word.ensures.same)
    c.push_word-2.ensures.same
