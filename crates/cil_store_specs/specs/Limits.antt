-- The limits of a store and its texts, which the edits keep.
use Rattle.std.specs.Prelude.{◌≤◌, length, IsTrue}
use Rattle.std.specs.List.{AllByRecursion}
use Rattle.cil_store_specs.specs.Store.{Entry, Store, is_installed, text_bytes}
use Rattle.cil_store_specs.specs.Next.{is_module_name, is_priority, HasGoodText, install_of}

-- an entry has the name of a module, a priority, and a text of at most 2 ^ 24 bytes
pub record IsEntryWithinLimits (e : Entry) : Type 0 where
  pub name : IsTrue (is_module_name e.name)
  pub priority : IsTrue (is_priority e.priority)
  pub text : length e.text ≤ 16777216

-- A store is within its limits: each of its entries is, they are at most 4096, of at most 2 ^ 26 bytes, and what is disabled is
-- installed.
pub record IsWithinLimits (store : Store) : Type 0 where
  pub each : AllByRecursion IsEntryWithinLimits store.entries
  pub count : length store.entries ≤ 4096
  pub bytes : text_bytes store.entries ≤ 67108864
  pub disabled : AllByRecursion (λ name. IsTrue (is_installed name store.entries)) store.disabled

-- the texts of all entries spell modules, also of those that aren't compiled
abbrev pub HasGoodTexts : Store → Type 0
HasGoodTexts store = AllByRecursion (λ e. HasGoodText (install_of e)) store.entries
