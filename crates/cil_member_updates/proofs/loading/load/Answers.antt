use Rattle.cil_member_updates.proofs.Common.{◌∙◌, length, sym, count_now, evaluations_in, sets_in}
use Rattle.cil_member_updates.proofs.DirtyLemmas.{evaluates-few}
use Rattle.cil_member_updates.proofs.LoadLemmas.{all-come, none-goes, nothing-counted}
use Rattle.cil_member_updates.proofs.loading.load.Goals as goal

pub load_sets-requires-clause-none : goal.load_sets-requires-clause-none
load_sets-requires-clause-none g c = nothing-counted c.args.symbols.now c.args.sides.now.old.resolved.now c.requires.sets (count_now c.args.rows.now) c.requires.now

pub returns-clause-now : goal.returns-clause-now
returns-clause-now g c a t = c.settle.ensures.now a t ∙ c.in_ok-load_sets.ensures.now a t

pub returns-clause-settled : goal.returns-clause-settled
returns-clause-settled g c = record {
  none = c.settle.ensures.steps;
  same = λ a t. c.settle.ensures.before a t ∙ sym (c.settle.ensures.now a t);
}

pub returns-clause-evaluations : goal.returns-clause-evaluations
returns-clause-evaluations g c =
    let symbols = c.args.symbols.now in
    let p = c.args.sides.now.old.resolved.now in
    let q = c.args.sides.now.new.resolved.now in
    let m = c.args.sides.now.matching.now in
    let before = evaluations_in c.args.meter.now in
    let after = evaluations_in c.load_sets.new.meter in
    evaluates-few symbols c.requires.old.distinct p q c.resolved_sets_are_in_order.ensures.the_same c.resolved_sets_are_in_order-2.ensures.the_same c.resolved_sets_are_apart.ensures.apart c.resolved_sets_are_apart-2.ensures.apart m c.requires.matched
    before before after (none-goes symbols p q m c.requires.matched c.requires.sets before) (all-come symbols p q m c.requires.matched c.requires.sets (length (sets_in q)) before after c.in_ok-load_sets.ensures.evaluations)
    c.resolved_is_sound.ensures c.resolved_is_sound-2.ensures c.args.sides.now.new.numbering.now.symbols c.requires.new.numbers c.resolved_names_are_kept.ensures.types c.resolved_names_are_kept.ensures.attributes
