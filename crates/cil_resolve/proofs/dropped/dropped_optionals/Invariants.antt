use Rattle.cil_resolve.proofs.Common.{List, take, flat_map, Placed, Declared, Optionals, IsBoundTo, AreFound, dropped_if, HaveMarks, modules_of}
use Rattle.cil_resolve.proofs.dropped.dropped_optionals.Given as goal

-- some optionals are found, and by the marks of a set those of the statements in front
abbrev pub invariant-loop-i : goal.invariant-loop-i
invariant-loop-i g l = record {
  some : (declared : List Declared) × AreFound (modules_of l.joined) l.found declared;
  all : (statements : List Placed) (set : Optionals) → IsBoundTo l.policy l.joined.modules.items statements → HaveMarks set l.kept statements
      → AreFound (modules_of l.joined) l.found (flat_map (dropped_if set) (take l.i statements));
}
