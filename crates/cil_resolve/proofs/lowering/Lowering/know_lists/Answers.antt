use Rattle.cil_resolve.proofs.Common.{◌<◌, ◌∙◌, [], is_some, sym, ap, subst, slice_get-get_or}
use Rattle.cil_resolve.proofs.KnownLemmas.{know-lists}
use Rattle.cil_resolve.proofs.lowering.Lowering.know_lists.Goals as goal

pub returns-clause-has : goal.returns-clause-has
returns-clause-has g c n low =
    let lists = c.in_ok-lists.lists.0 in
    let there = subst (λ k. n < k) (sym c.in_ok-lists.ensures.long) low in
    ap is_some (c.in_ok-known.ensures.here n ∙ slice_get-get_or lists n [] there)

pub returns-clause-known : goal.returns-clause-known
returns-clause-known g c policy is =
    know-lists c.args.self.now c.in_ok-known.field-0 policy c.args.m c.in_ok-lists.lists.0 c.in_ok-known.ensures.here c.in_ok-known.ensures.others
    (λ n numbers at. c.in_ok-lists.ensures.numbers policy n numbers is at)
