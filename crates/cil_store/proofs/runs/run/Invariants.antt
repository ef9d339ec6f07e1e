use Rattle.cil_store.proofs.Common.{◌≡◌, ◌≤◌, take, map, length, vec_len, Run, call_of, reply_of}
use Rattle.std.specs.Vec.{vec_capacity}
use Rattle.cil_store.proofs.runs.run.Given as goal

abbrev pub invariant-loop-call : goal.invariant-loop-call
invariant-loop-call g l = record {
  made : vec_len l.replies ≡ l.call-index;
  room : length l.calls ≤ vec_capacity l.replies;
  run : Run (g.C.Compiled.store l.fn.engine) (map call_of (take l.call-index l.calls)) (map reply_of l.replies.items) (g.C.Compiled.store l.engine);
}
