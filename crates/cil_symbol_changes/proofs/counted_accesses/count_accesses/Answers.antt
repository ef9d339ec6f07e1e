use Rattle.cil_symbol_changes.proofs.Common.{arith, count_now, has_come}
use Rattle.cil_symbol_changes.proofs.CountLemmas.{so-many}
use Rattle.cil_symbol_changes.proofs.counted_accesses.count_accesses.Goals as goal

pub returns : goal.returns
returns g c =
    let few = c.if-count.false in
    so-many (has_come (λ key t. 0) (count_now c.args.lines.now)) c.in_ok-count.count (omega (arith, few)) c.in_ok-count.ensures
