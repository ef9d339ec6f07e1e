use Rattle.cil_bind.proofs.Common.{◌≡◌, ◌++◌, List, ℕ, bytes_eq, take, IsDistinct, AreNumbersOf, names_of}
use Rattle.cil_bind.proofs.words.number_names.Given as goal

-- so many names have their numbers
abbrev pub invariant-loop-i : goal.invariant-loop-i
invariant-loop-i g l = record {
  numbers : AreNumbersOf l.names l.words.items (take l.i (names_of l.«module»));
  kept : (more : List (List ℕ)) × (l.names ≡ l.fn.names ++ more);
  distinct : IsDistinct bytes_eq l.fn.names → IsDistinct bytes_eq l.names;
}
