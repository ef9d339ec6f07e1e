-- The report of the modules of a store (semodule -lfull, in a form of this project's own).
use Rattle.std.specs.Prelude.{ℕ, Bool, List, ◌++◌, bytes_eq, codes, decimal, flat_map, length, if◌then◌else◌}
use Rattle.std.specs.List.{list_any}
use Rattle.cil_store_specs.specs.Store.{Entry, Store, is_highest}

-- whether a name is disabled
abbrev pub is_disabled : Store → List ℕ → Bool
is_disabled store name = list_any (bytes_eq name) store.disabled

-- disabled with its name; or else active at the highest priority of the name, and shadowed at the others
abbrev pub state_word : Store → Entry → List ℕ
state_word store e = if is_disabled store e.name then codes "disabled" else if is_highest store.entries e then codes "active" else codes "shadowed"

-- the line of an entry and its state
abbrev pub entry_text : Entry → List ℕ → List ℕ
entry_text e state = e.name ++ codes " " ++ decimal e.priority ++ codes " " ++ decimal (length e.text) ++ codes " " ++ state ++ codes "\n"

abbrev pub module_line : Store → Entry → List ℕ
module_line store e = entry_text e (state_word store e)

-- the report
abbrev pub modules_text : Store → List ℕ
modules_text store = flat_map (module_line store) store.entries
