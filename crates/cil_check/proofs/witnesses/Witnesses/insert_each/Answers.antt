use Rattle.std.proofs.Common.{◌<◌, length, arith}
use Rattle.cil_check.proofs.SeenLemmas.{there-at}
use Rattle.cil_check.proofs.witnesses.Witnesses.insert_each.Goals as goal

pub insert_all-requires : goal.insert_all-requires
insert_all-requires g c =
    let (policy, is) = c.requires in
    let count = c.len-i-end.ensures policy is in
    let less : c.loop-i.i < length policy = omega (arith, count) in
    let (t, at) = there-at policy c.loop-i.i less in
    (policy, t, c.seen-seen.ensures.seen policy t is at)
