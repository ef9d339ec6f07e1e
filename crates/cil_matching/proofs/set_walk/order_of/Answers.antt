use Rattle.std.specs.Ordering.{ordering_then}
use Rattle.cil_matching.proofs.Common.{◌∙◌, spot_cmp}
use Rattle.cil_matching.proofs.SetLemmas.{set-stands}
use Rattle.cil_matching.proofs.set_walk.order_of.Goals as goal

pub returns-clause-order : goal.returns-clause-order
returns-clause-order g c p q here there =
    let mine = set-stands c.args.old.now c.args.i c.numbered_at-set.result.now c.numbered_at-set.ensures.stands p here in
    let its = set-stands c.args.new.now c.args.j c.numbered_at-other.result.now c.numbered_at-other.ensures.stands q there in
    c.then.ensures ∙ (λ k. ordering_then (c.order_of_modules.ensures.order k) (c.cmp.ensures k)) ∙ (λ k. spot_cmp (its k) (mine k))
