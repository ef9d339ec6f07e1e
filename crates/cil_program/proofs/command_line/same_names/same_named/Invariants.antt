use Rattle.std.proofs.Common.{◌≡◌, [], List, ℕ, map, take}
use Rattle.std.specs.List.{AllZip}
use Rattle.cil_specs.specs.Lookup.{distinct}
use Rattle.cil_program.specs.CommandLine.{NamesModule}
use Rattle.cil_program.specs.Given.{same_named}
use Rattle.cil_program.proofs.command_line.same_names.same_named.Given as goal

abbrev pub invariant-loop-path : goal.invariant-loop-path
invariant-loop-path l =
    (names : List (List ℕ)) × AllZip NamesModule (map (λ path. path.now) (take l.path-index l.paths)) names × (l.seen ≡ distinct names)
    × (map (λ path. path.now) l.found.items ≡ same_named [] (map (λ path. path.now) (take l.path-index l.paths)) names)
