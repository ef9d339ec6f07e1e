use Rattle.std.proofs.Common.{◌≡◌, map, take}
use Rattle.cil_resolve.proofs.FullNamesLemmas.{space_name_of}
use Rattle.cil_resolve.proofs.full_names.space_names.Given as goal

abbrev pub invariant-loop-n : goal.invariant-loop-n
invariant-loop-n g l = l.names.items ≡ map (space_name_of l.policy.names) (take l.n l.policy.lookup.namespaces)
