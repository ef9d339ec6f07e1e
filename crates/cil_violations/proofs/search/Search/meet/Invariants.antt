use Rattle.std.proofs.Common.{◌≡◌, flat_map, take}
use Rattle.std.specs.List.{filter, list_any}
use Rattle.cil_violations.proofs.Common.{is_set_rule, permissions_at, rules_in, share, stood_for}
use Rattle.cil_violations.proofs.search.Search.meet.Given as goal

-- those for whom the heads so far stand
abbrev pub invariant-loop-head : goal.invariant-loop-head
invariant-loop-head g l = record {
  list : l.list.items ≡ flat_map (stood_for (rules_in l.self)) (filter (λ h. share (permissions_at l.self l.never) (permissions_at l.self h)) (take l.head-index l.head-items));
  sets : l.are_of_sets ≡ list_any (is_set_rule (rules_in l.self)) (filter (λ h. share (permissions_at l.self l.never) (permissions_at l.self h)) (take l.head-index l.head-items));
}
