use Rattle.std.proofs.Common.{◌≡◌, ◌++◌, map, take}
use Rattle.std.specs.List.{filter}
use Rattle.std.specs.String.{string_bytes}
use Rattle.cil_program.specs.Given.{in_folder, is_cil_file}
use Rattle.cil_program.proofs.command_line.folders.add_files.Given as goal

abbrev pub invariant-loop-name : goal.invariant-loop-name
invariant-loop-name l =
    map string_bytes l.paths.items ≡ map string_bytes l.fn.paths.items ++ map (in_folder l.folder) (filter is_cil_file (map string_bytes (take l.name-index l.names)))
