use Rattle.cil_resolve.proofs.Common.{IsIn}
use Rattle.cil_resolve.proofs.lowering.Lowering.add_set.Goals as goal

pub seen-seen-requires : goal.seen-seen-requires
seen-seen-requires g c =
    let (policy, s, is, at, set) = c.requires in
    (policy, s, is, at)

pub set_with-requires : goal.set_with-requires
set_with-requires g c =
    let (policy, s, is, at, set) = c.requires in
    (policy, s, c.seen-seen.ensures policy s is at, at, set)

pub returns : goal.returns
returns g c policy s is at (attribute, expr, form) =
    let is_in : IsIn c.args.self.now c.seen-seen.result policy s = c.seen-seen.ensures policy s is at in
    record {
      set = c.set_with.result;
      pushed = c.in_ok-push.ensures.items;
      is = c.set_with.ensures policy s attribute expr is_in at form (c.in-Some.ensures policy s attribute expr is_in form);
    }

pub short_expression-requires : goal.short_expression-requires
short_expression-requires g c =
    let (policy, s, is, at, set) = c.requires in
    (policy, s, c.seen-seen.ensures policy s is at, set)
