use Rattle.cil_program.proofs.Common.{◌≡◌, ◌++◌, length, AllZip, owned_entry, IsEntryFor}
use Rattle.std.specs.Vec.Iter.{into_iter_items, into_iter_len}
use Rattle.cil_program.proofs.command_line.files.entries_of.Given as goal

abbrev pub invariant-loop-file : goal.invariant-loop-file
invariant-loop-file g l = (l.yielded ++ into_iter_items l.file-iterator ≡ into_iter_items l.initial.file-iterator)
    × AllZip (λ file entry. IsEntryFor file.path.now file.text.items (owned_entry entry)) l.yielded l.entries.items
    × (into_iter_len l.file-iterator ≡ length (into_iter_items l.file-iterator))
