use Rattle.cil_resolve.proofs.Common.{◌≡◌, ℕ, List, map, flat_map, take, Declared, AreFound, dropped_with}
use Rattle.std.proofs.Common.{drop}
use Rattle.cil_resolve.proofs.DroppedLemmas.{name_of}
use Rattle.cil_resolve.proofs.dropped.with_names.Given as goal

-- so many optionals have their names, and the bytes of the others' names are left
abbrev pub invariant-loop-optional : goal.invariant-loop-optional
invariant-loop-optional g l = record {
  rest : (modules : List (List ℕ)) (declared : List Declared) → AreFound modules l.fn.found declared → l.rest ≡ flat_map name_of (drop l.optional-index declared);
  dropped : (modules : List (List ℕ)) (declared : List Declared) → AreFound modules l.fn.found declared → map (dropped_with modules) l.dropped.items ≡ take l.optional-index declared;
}
