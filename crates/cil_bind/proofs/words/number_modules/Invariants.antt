use Rattle.cil_bind.proofs.Common.{bytes_eq, take, IsDistinct, AreWorded}
use Rattle.cil_bind.proofs.words.number_modules.Given as goal

-- so many modules have their numbers
abbrev pub invariant-loop-i : goal.invariant-loop-i
invariant-loop-i g l = record {
  worded : AreWorded l.names l.words.items (take l.i l.joined.modules.items);
  distinct : IsDistinct bytes_eq l.fn.names → IsDistinct bytes_eq l.names;
}
