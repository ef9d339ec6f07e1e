use Rattle.cil_symbol_changes.proofs.Common.{bit_at, has_risen, subst, sym, RisesBy}
use Rattle.cil_symbol_changes.proofs.WordCountLemmas.{bits-risen}
use Rattle.cil_symbol_changes.proofs.counted_changes.ChangeCounts.of_word.Goals as goal

pub returns : goal.returns
returns c =
    let was = c.args.was in
    let is = c.args.is in
    record {
      added = subst (RisesBy (λ b. has_risen (bit_at was b) (bit_at is b)) 0) (sym c.from.ensures) (bits-risen was is c.ranges.was.fits c.ranges.is.fits);
      removed = subst (RisesBy (λ b. has_risen (bit_at is b) (bit_at was b)) 0) (sym c.from-2.ensures) (bits-risen is was c.ranges.is.fits c.ranges.was.fits);
    }
