use Rattle.std.proofs.Common.{◌≡◌, ◌+◌, ◌*◌, ◌<◌, false, true, length, All, get_or, count_by}
use Rattle.cil_needs.proofs.GreatestLemmas.{AreSettled, IsAbove}
use Rattle.cil_needs.proofs.greatest.greatest_set.Given as goal

abbrev pub invariant-loop-i : goal.invariant-loop-i
invariant-loop-i g l = record {
  len : length l.kept.items ≡ l.count + 1;
  outside : get_or l.kept.items 0 false ≡ true;
  above : IsAbove l.count l.kept.items l.needs;
  within : All (λ i. i < length l.needs) l.«open».items;
  settled : AreSettled l.kept.items l.needs l.«open».items;
}

abbrev pub decreases-loop-i : goal.decreases-loop-i
decreases-loop-i g l = count_by (λ b. b) l.kept.items * length l.dependents.items + length l.«open».items
