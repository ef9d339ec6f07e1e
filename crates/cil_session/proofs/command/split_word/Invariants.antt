use Rattle.cil_session.proofs.Common.{IsTrue, take, list_all, is_no_space}
use Rattle.cil_session.proofs.command.split_word.Given as goal

abbrev pub invariant-loop-i : goal.invariant-loop-i
invariant-loop-i l = IsTrue (list_all is_no_space (take l.i l.bytes))
