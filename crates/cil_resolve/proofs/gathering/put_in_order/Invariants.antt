use Rattle.cil_resolve.proofs.Common.{◌≡◌, length, take, ArePutInOrder}
use Rattle.cil_resolve.proofs.gathering.put_in_order.Given as goal

-- the sets of the places so far
abbrev pub invariant-loop-place : goal.invariant-loop-place
invariant-loop-place g l = record {
  long : length l.sets.items ≡ l.place;
  ordered : ArePutInOrder (take l.place l.numbers) l.lists l.sets.items;
}
