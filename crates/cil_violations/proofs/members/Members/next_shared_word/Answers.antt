use Rattle.std.proofs.Common.{arith}
use Rattle.cil_violations.specs.Held.{both_hold, holds_symbol}
use Rattle.cil_violations.proofs.WordLemmas.{first-skips, word-skipped, word-some}
use Rattle.cil_violations.proofs.members.Members.next_shared_word.Goals as goal

pub returns-then-shared_word-ne0 : goal.returns-then-shared_word-ne0
returns-then-shared_word-ne0 g c =
    record {
      from_on = omega (arith, c.loop-word.invariant.from_on, c.in_ok-word.ensures.from_on);
      holds = word-some (both_hold c.args.self.now c.args.first c.args.second) c.in_ok-word.word
          c.shared_word.result c.shared_word.ensures (omega arith) (omega arith);
      before = first-skips (holds_symbol c.args.self.now c.args.first) (holds_symbol c.args.self.now c.args.second) c.args.from c.loop-word.from c.in_ok-word.word c.loop-word.invariant.before
          c.in_ok-word.ensures;
    }

pub loop-word-preserved-then-from-word : goal.loop-word-preserved-then-from-word
loop-word-preserved-then-from-word g c =
    let p = holds_symbol c.args.self.now c.args.first in
    let q = holds_symbol c.args.self.now c.args.second in
    record {
      from_on = omega (arith, c.loop-word.invariant.from_on, c.in_ok-word.ensures.from_on);
      before =
          word-skipped p q c.args.from c.in_ok-word.word c.shared_word.result
          (first-skips p q c.args.from c.loop-word.from c.in_ok-word.word c.loop-word.invariant.before
          c.in_ok-word.ensures) c.shared_word.ensures (omega arith);
    }
