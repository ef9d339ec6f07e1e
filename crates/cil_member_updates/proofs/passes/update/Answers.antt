use Rattle.cil_member_updates.proofs.Common.{◌∙◌, on_ok_weaker, count_now, evaluations_in}
use Rattle.cil_member_updates.proofs.DirtyLemmas.{evaluates-few}
use Rattle.cil_member_updates.proofs.SideLemmas.{stayed-all}
use Rattle.cil_member_updates.proofs.passes.update.Goals as goal

pub renew-requires-clause-before : goal.renew-requires-clause-before
renew-requires-clause-before g c a t = c.in_ok-lower_gone.ensures.stays.counts a t ∙ c.requires.before a t

pub renew-requires-clause-now : goal.renew-requires-clause-now
renew-requires-clause-now g c a t =
    stayed-all c.args.symbols.now c.args.sides.now.old.resolved.now c.args.sides.now.new.resolved.now c.args.sides.now.matching.now c.requires.matched a t (count_now c.lower_gone.new.rows a t) (c.in_ok-lower_gone.ensures.now a t)

pub returns-clause-evaluations : goal.returns-clause-evaluations
returns-clause-evaluations g c =
    let p = c.args.sides.now.old.resolved.now in
    let q = c.args.sides.now.new.resolved.now in
    on_ok_weaker c.renew.result
    (λ second.
    evaluates-few c.args.symbols.now c.requires.old.distinct p q c.resolved_sets_are_in_order.ensures.the_same c.resolved_sets_are_in_order-2.ensures.the_same c.resolved_sets_are_apart.ensures.apart c.resolved_sets_are_apart-2.ensures.apart c.args.sides.now.matching.now c.requires.matched
    (evaluations_in c.args.meter.now) (evaluations_in c.lower_gone.new.meter) (evaluations_in c.renew.new.meter) c.in_ok-lower_gone.ensures.evaluations second
    c.resolved_is_sound.ensures c.resolved_is_sound-2.ensures c.args.sides.now.new.numbering.now.symbols c.requires.new.numbers c.resolved_names_are_kept.ensures.types c.resolved_names_are_kept.ensures.attributes)
    c.renew.ensures.evaluations
