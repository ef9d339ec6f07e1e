use Rattle.std.proofs.Common.{◌≡◌, length}
use Rattle.cil_matching.specs.Inverse.{IsInverse}
use Rattle.cil_matching.proofs.inverse.inverse.Given as goal

-- so many numbers are noted at their places
abbrev pub invariant-loop-i : goal.invariant-loop-i
invariant-loop-i g l = record {
  long : length l.back.items ≡ l.count;
  inverse : IsInverse l.i l.places l.back.items;
}
