use Rattle.std.proofs.Common.{◌≡◌, is_some, map, take}
use Rattle.cil_symbols.proofs.numbering.Numbering.in_use.Given as goal

-- the marks of so many symbols
abbrev pub invariant-loop-local : goal.invariant-loop-local
invariant-loop-local g l = l.marks.items ≡ map is_some (take l.local-index l.local-items)
