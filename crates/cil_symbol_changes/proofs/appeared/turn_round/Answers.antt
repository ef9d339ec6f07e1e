use Rattle.std.proofs.Common.{◌∙◌, ap, arith}
use Rattle.cil_recorded.specs.Differences.{appeared_at}
use Rattle.cil_symbol_changes.proofs.ChangeLemmas.{appeared-round, turned-all, turned-more, turned-none}
use Rattle.cil_symbol_changes.proofs.appeared.turn_round.Goals as goal

pub loop-place-init : goal.loop-place-init
loop-place-init c = turned-none c.args.changes.now

pub loop-place-preserved : goal.loop-place-preserved
loop-place-preserved c =
    turned-more c.args.changes.now c.loop-place.place c.loop-place.changes c.loop-place.invariant
    (let within = c.loop-place-test.true in let long = c.loop-place.auto.changes in omega (arith, within, long))

pub returns : goal.returns
returns c l t =
    ap (λ ds. appeared_at ds l t)
    (turned-all c.args.changes.now c.loop-place.place c.loop-place.changes c.loop-place.invariant
    (let past = c.loop-place-test.false in let long = c.loop-place.auto.changes in omega (arith, past, long)))
    ∙ appeared-round c.args.changes.now l t
