use Rattle.cil_accesses.proofs.GroupLemmas.{group-front}
use Rattle.cil_accesses.proofs.Order.{run_total}
use Rattle.cil_accesses.proofs.run.split_run.Goals as goal

pub returns : goal.returns
returns c =
    let e = c.split_at.ensures in
    group-front run_total c.args.chunks.now c.in_ok-first.first.now c.run_len.result c.split_at.result.0.now c.split_at.result.1.now c.in_ok-first.ensures.value c.run_len.ensures.all e.front e.back e.front_len
