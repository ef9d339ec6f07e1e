use Rattle.std.proofs.Common.{◌≡◌, length, take}
use Rattle.cil_symbols.specs.Numbered.{AreInverse}
use Rattle.cil_symbols.proofs.numbering.Numbering.with_symbols.Given as goal

-- so many symbols have their numbers
abbrev pub invariant-loop-local : goal.invariant-loop-local
invariant-loop-local g l = record {
  long : length l.locals.items ≡ l.count;
  inverse : AreInverse (take l.local l.fn.symbols.items) l.locals.items;
}
