use Rattle.cil_symbols.proofs.Common.{◌≡◌, fold, take, with_name, AreNumbersOf}
use Rattle.cil_symbols.proofs.numbering.symbols_of.Given as goal

-- so many names have their symbols
abbrev pub invariant-loop-i : goal.invariant-loop-i
invariant-loop-i g l = record {
  symbols : l.symbols ≡ fold with_name l.fn.symbols (take l.i l.resolved.names.items);
  numbers : AreNumbersOf l.symbols l.numbers.items (take l.i l.resolved.names.items);
}
