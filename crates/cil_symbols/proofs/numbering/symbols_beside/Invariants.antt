use Rattle.cil_symbols.proofs.Common.{◌≡◌, ◌+◌, ◌≤◌, ℕ, length, max, slice_get, take, AreNumbersOf, used_in, AreUsed, IsUsed}
use Rattle.cil_symbols.proofs.numbering.symbols_beside.Given as goal

-- So many names have their symbols, which are in use. The names of the symbols that were in use before stay.
abbrev pub invariant-loop-i : goal.invariant-loop-i
invariant-loop-i g l = record {
  long : length l.in_use ≡ length l.symbols;
  numbers : AreNumbersOf l.symbols l.numbers.items (take l.i l.resolved.names.items);
  used : AreUsed l.in_use l.numbers.items;
  still : (s : ℕ) → IsUsed l.fn.in_use s → IsUsed l.in_use s;
  kept : (s : ℕ) → IsUsed l.fn.in_use s → slice_get l.symbols s ≡ slice_get l.fn.symbols s;
  count : used_in l.in_use ≤ used_in l.fn.in_use + l.i;
  few : length l.symbols ≤ max (length l.fn.symbols) (used_in l.fn.in_use + l.i);
  grown : length l.fn.symbols ≤ length l.symbols;
}
