use Rattle.cil_session.proofs.Common.{◌≤◌, ◌-◌, length, IsTrue, list_all, HasRead, stays}
use Rattle.cil_session.proofs.input.Input.read_line.Given as goal

abbrev pub invariant-loop-b : goal.invariant-loop-b
invariant-loop-b g l =
    let account = g.S.Source.account in
    record {
      read : HasRead (account l.fn.source) (account l.source) l.fn.self l.self l.line;
      stays : IsTrue (list_all stays l.line);
      short : length l.line ≤ 4096;
      failures : (g.S.Source.account l.fn.source).failures ≤ (g.S.Source.account l.source).failures;
    }

abbrev pub decreases-loop-b : goal.decreases-loop-b
decreases-loop-b g l = 4096 - length l.line
