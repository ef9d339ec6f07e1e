use Rattle.cil_table_updates.proofs.Common.{refl, adjustments_in, moves_from, shifts}
use Rattle.cil_table_updates.proofs.AdjustedLemmas.{counter-rises}
use Rattle.cil_table_updates.proofs.moves.shift_as.Goals as goal

pub returns-clause-adjustments : goal.returns-clause-adjustments
returns-clause-adjustments g c =
    counter-rises (moves_from c.args.kind c.args.turn.now.was c.args.turn.now.is) (shifts c.args.kind c.args.turn.now.was c.args.turn.now.is)
    (λ key t. refl) (adjustments_in c.args.meter.now) c.in_ok-moved.moved (adjustments_in c.adjusted.new.self) c.in_ok-moved.ensures.moved c.adjusted.ensures.adjustments
