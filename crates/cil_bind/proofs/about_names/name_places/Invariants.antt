use Rattle.cil_bind.proofs.Common.{◌≡◌, take}
use Rattle.cil_bind.specs.AboutNames.{name_places}
use Rattle.cil_bind.proofs.about_names.name_places.Given as goal

-- the places of those that were gone over
abbrev pub invariant-loop-i : goal.invariant-loop-i
invariant-loop-i g l = l.places.items ≡ name_places 0 (take l.i l.kinds)
