use Rattle.std.proofs.Common.{◌≡◌, ◌++◌, length, map}
use Rattle.std.specs.Vec.Iter.{into_iter_items, into_iter_len}
use Rattle.cil_store.proofs.Common.{AreTaken, empty, install_of, owned_entry}
use Rattle.cil_store.proofs.policy.install_all.Given as goal

abbrev pub invariant-loop-entry : goal.invariant-loop-entry
invariant-loop-entry g l = (l.yielded ++ into_iter_items l.entry-iterator ≡ into_iter_items l.initial.entry-iterator)
    × AreTaken empty (map install_of (map owned_entry l.yielded)) l.store
    × (into_iter_len l.entry-iterator ≡ length (into_iter_items l.entry-iterator))
