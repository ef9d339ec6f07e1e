use Rattle.cil_counters.proofs.Common.{IfOk-weaker, count_before, count_now, pairs_of}
use Rattle.cil_counters.proofs.ChangedMemberLemmas.{changed-named}
use Rattle.cil_counters.proofs.counters.Counters.changed_members.Goals as goal

pub returns : goal.returns
returns g c =
    let counters = c.args.self.now in
    IfOk-weaker c.changed_members_of.result _ _
    (λ members named. changed-named (count_before counters.rows) (count_now counters.rows) counters.names c.len.ensures.distinct (pairs_of members.items) named)
    c.changed_members_of.ensures
