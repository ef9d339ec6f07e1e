use Rattle.cil_symbol_changes.proofs.Common.{◌==◌, bit_at, rises-bits, subst, sym, RisesBy}
use Rattle.cil_symbol_changes.proofs.counted_changes.ChangeCounts.of_change.Goals as goal

pub returns-clause-counted : goal.returns-clause-counted
returns-clause-counted c =
    let appeared = c.args.appeared in
    let gone = c.args.gone in
    record {
      added = subst (RisesBy (λ b. bit_at appeared b == 1) 0) (sym c.from.ensures) (rises-bits 64 appeared c.ranges.appeared.fits);
      removed = subst (RisesBy (λ b. bit_at gone b == 1) 0) (sym c.from-2.ensures) (rises-bits 64 gone c.ranges.gone.fits);
    }
