use Rattle.cil_matching.proofs.Common.{◌≡◌, ℕ, List, name_cmp, ArePlaces, AreBefore}
use Rattle.cil_matching.proofs.name_numbers.name_numbers.Given as goal

-- so many have their numbers, and so many of the new ones stand before the next
abbrev pub invariant-loop-i : goal.invariant-loop-i
invariant-loop-i g l = record {
  numbers_are : ArePlaces (λ (x y : List ℕ). x ≡ y) l.old.names.items l.new.names.items l.i l.numbers.items;
  before : AreBefore name_cmp l.old.names.items l.new.names.items l.i l.from;
}
