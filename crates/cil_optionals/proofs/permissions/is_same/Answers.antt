use Rattle.cil_optionals.proofs.Common.{◌≤◌, length, sym, ◌∙◌, arith, take_all, bytes_eq-Decides}
use Rattle.cil_optionals.proofs.permissions.is_same.Goals as goal

pub returns : goal.returns
returns c =
    let name = c.args.name.now in
    let other = c.args.other.now in
    let past : length name ≤ c.loop-i.i = omega arith in
    let past_other : length other ≤ c.loop-i.i = omega arith in
    sym ((bytes_eq-Decides name other).1 (sym (take_all c.loop-i.i name past) ∙ c.loop-i.invariant ∙ take_all c.loop-i.i other past_other))
