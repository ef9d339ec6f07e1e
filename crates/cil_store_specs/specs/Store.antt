-- The store: entries by name and priority, and the names that are disabled.
use Rattle.std.specs.Prelude.{ℕ, Bool, not, ◌&&◌, ◌||◌, ◌==◌, ◌+◌, nat_le, List, [], ◌∷◌, ◌++◌, filter, find, length, Option, bytes_eq, sum_by}
use Rattle.std.specs.List.{list_all, list_any}
use Rattle.std.specs.List.Sorted.{IsStrictlySortedBy}
use Rattle.std.specs.Option.{option_map}
use Rattle.std.specs.Ordering.{nat_cmp, ordering_then, is_lt}
use Rattle.std.specs.declared.cmp.Ordering.{Ordering}
use Rattle.cil_specs.specs.Report.{name_cmp}

-- a module's text at a priority
pub record Entry : Type 0 where
  pub name : List ℕ
  pub priority : ℕ
  pub text : List ℕ

-- the entries, and the names that are disabled
pub record Store : Type 0 where
  pub entries : List Entry
  pub disabled : List (List ℕ)

abbrev pub empty : Store
empty = record { entries = []; disabled = [] }

abbrev pub entry_cmp : Entry → Entry → Ordering
entry_cmp a b = ordering_then (name_cmp a.name b.name) (nat_cmp b.priority a.priority)

-- A store is in order: its entries by name and then by falling priority, the disabled names by their bytes, none of them twice.
pub record IsStore (store : Store) : Type 0 where
  pub entries : IsStrictlySortedBy entry_cmp store.entries
  pub disabled : IsStrictlySortedBy name_cmp store.disabled

-- an entry of a name and a priority, whose text doesn't matter
abbrev pub entry_at : List ℕ → ℕ → Entry
entry_at name priority = record { name = name; priority = priority; text = [] }

-- a list in an order with one item more, in its place and in place of one that the order takes for the same
abbrev pub put_by : {X : Type 0} → (X → X → Ordering) → X → List X → List X
put_by cmp x xs = filter (λ o. is_lt (cmp o x)) xs ++ x ∷ filter (λ o. is_lt (cmp x o)) xs

-- the entries with this one in its place, and in place of one of its name and priority
abbrev pub put : Entry → List Entry → List Entry
put e entries = put_by entry_cmp e entries

-- whether an entry has this name and priority
abbrev pub is_entry : List ℕ → ℕ → Entry → Bool
is_entry name priority e = bytes_eq e.name name && (e.priority == priority)

-- the entries without the one of a name and a priority
abbrev pub without : List ℕ → ℕ → List Entry → List Entry
without name priority entries = filter (λ e. not (is_entry name priority e)) entries

-- whether there is an entry of a name and a priority
abbrev pub has_entry : List ℕ → ℕ → List Entry → Bool
has_entry name priority entries = list_any (is_entry name priority) entries

-- whether there is an entry of a name, at any priority
abbrev pub is_installed : List ℕ → List Entry → Bool
is_installed name entries = list_any (λ e. bytes_eq e.name name) entries

-- the names with one more in its place, and without one
abbrev pub put_name : List ℕ → List (List ℕ) → List (List ℕ)
put_name name names = put_by name_cmp name names

abbrev pub without_name : List ℕ → List (List ℕ) → List (List ℕ)
without_name name names = filter (λ o. not (bytes_eq o name)) names

-- the bytes of all texts
abbrev pub text_bytes : List Entry → ℕ
text_bytes entries = sum_by (λ e. length e.text) entries

-- Whether the entries have room for one of a name and a priority with a text of some length: with it, and without one whose place it
-- takes, they are at most 4096, of at most 2 ^ 26 bytes.
abbrev pub has_room : List ℕ → ℕ → ℕ → List Entry → Bool
has_room name priority size entries =
    nat_le (length (without name priority entries) + 1) 4096 && nat_le (text_bytes (without name priority entries) + size) 67108864

-- whether no entry of its name has a higher priority
abbrev pub is_highest : List Entry → Entry → Bool
is_highest entries e = list_all (λ o. not (bytes_eq o.name e.name) || nat_le o.priority e.priority) entries

-- whether an entry is compiled: its name isn't disabled, and it is the one of its highest priority
abbrev pub is_active : Store → Entry → Bool
is_active store e = not (list_any (bytes_eq e.name) store.disabled) && is_highest store.entries e

-- the entries that are compiled
abbrev pub active : Store → List Entry
active store = filter (is_active store) store.entries

-- the text of a name that is compiled
abbrev pub active_text : Store → List ℕ → Option (List ℕ)
active_text store name = option_map (λ e. e.text) (find (λ e. bytes_eq e.name name) (active store))
