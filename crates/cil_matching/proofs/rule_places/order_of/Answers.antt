use Rattle.std.specs.Ordering.{nat_cmp, ordering_then}
use Rattle.cil_matching.proofs.Common.{◌∙◌, rule_cmp}
use Rattle.cil_matching.proofs.PlaceLemmas.{read-is}
use Rattle.cil_matching.proofs.rule_places.order_of.Goals as goal

pub returns-clause-order : goal.returns-clause-order
returns-clause-order g c r s here there =
    let mine = read-is c.args.old.now c.args.i c.index-rules-i.result c.rules.result.now r c.requires.i c.rules.ensures.rules c.index-rules-i.is here in
    let its = read-is c.args.new.now c.args.j c.index-rules-j.result c.rules-2.result.now s c.requires.j c.rules-2.ensures.rules c.index-rules-j.is there in
    c.then_offsets.ensures ∙ (λ k. ordering_then (c.order_of_modules-modules.ensures.order k) (nat_cmp c.index-rules-j.result.at.offset c.index-rules-i.result.at.offset)) ∙ (λ k. rule_cmp (its k) (mine k))
