use Rattle.std.proofs.Common.{◌≤◌, ◌-◌, ◌^◌, [], length}
use Rattle.cil_session.proofs.ScriptLemmas.{SoFar, begun}
use Rattle.cil_session.proofs.session.answer_commands.Given as goal

abbrev pub invariant-turns : goal.invariant-turns
invariant-turns g l =
    let S = g.S.Source in
    let W = g.W.Sink in
    let C = g.C.Compiled in
    record {
      so_far : SoFar (record { account = S.account l.fn.source; held = record { bytes = []; line_feeds = 0 } })
          (record { account = S.account l.source; held = l.session.input }) (begun (record { store = C.store l.fn.engine; taken = W.taken l.fn.sink }))
          (record { state = record { store = C.store l.engine; batch = l.session.batch }; taken = W.taken l.sink }) l.status;
      read_failures : (S.account l.fn.source).failures ≤ (S.account l.source).failures;
      write_failures : W.failures l.fn.sink ≤ W.failures l.sink;
    }

abbrev pub decreases-turns : goal.decreases-turns
decreases-turns g l = 2 ^ 64 - ((g.S.Source.account l.source).count - length l.session.input.bytes)
