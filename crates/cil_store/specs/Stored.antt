-- The entries of a store, as the code has them.
use Rattle.std.specs.Prelude.{[], ◌∷◌, ◌≡◌, ◌<◌, ◌^◌, ℕ, List, length}
use Rattle.std.specs.List.{AllByRecursion}
use Rattle.std.specs.List.Sorted.{IsStrictlySortedBy}
use Rattle.cil_store_specs.specs.Store as spec
use Rattle.cil_parse.specs.Parsed.{IsParsed}
use Rattle.cil_bind.specs.declared.joined.NamedModule.{NamedModule}
use Rattle.std.specs.Rc.{rc_value}
use Rattle.cil_parse.specs.declared.parsed.ParsedModule.{ParsedModule}
use Rattle.cil_store.specs.declared.entry.Entry.{Entry}
use Rattle.cil_store.specs.declared.entry.OwnedEntry.{OwnedEntry}
use Rattle.cil_store.specs.declared.entry.SharedModule.{SharedModule}
use Rattle.cil_store.specs.declared.entry.Kept.{Kept}

abbrev pub entry_of : Entry → spec.Entry
entry_of e = record { name = e.name.now; priority = e.priority; text = e.text.now }

-- the entry of one that owns its text
abbrev pub owned_entry : {A : Type 0} → OwnedEntry A → spec.Entry
owned_entry e = record { name = e.name.now; priority = e.priority; text = e.text.items }

-- the entry of what one keeps
abbrev pub kept_entry : {A : Type 0} → Kept A → spec.Entry
kept_entry k = record { name = k.name; priority = k.priority; text = k.text }

-- Entries as a store keeps them: they stand in order, the length of each text fits 64 bits, and all texts together have so many bytes.
pub record AreSized (entries : List spec.Entry) (bytes : ℕ) : Type 0 where
  pub in_order : IsStrictlySortedBy spec.entry_cmp entries
  pub held : AllByRecursion (λ e. length e.text < 2 ^ 64) entries
  pub sized : bytes ≡ spec.text_bytes entries

-- things with names and parsed modules have those of entries
abbrev pub AreParsedBy : {A X : Type 0} → (X → List ℕ) → (X → ParsedModule A) → List spec.Entry → List X → Type 0
AreParsedBy name parsed [] [] = Unit {0}
AreParsedBy name parsed [] (x ∷ xs) = ⊥
AreParsedBy name parsed (e ∷ entries) [] = ⊥
AreParsedBy name parsed (e ∷ entries) (x ∷ xs) = (name x ≡ e.name) × IsParsed e.text (parsed x) × AreParsedBy name parsed entries xs

-- parsed modules are those of entries, under the entries' names
abbrev pub AreParsedOf : {A : Type 0} → List spec.Entry → List (NamedModule A) → Type 0
AreParsedOf = AreParsedBy (λ n. n.name.now) (λ n. n.«module».now)

-- and so are such that are shared
abbrev pub AreSharedOf : {A : Type 0} → List spec.Entry → List (SharedModule A) → Type 0
AreSharedOf = AreParsedBy (λ m. m.name) (λ m. rc_value m.«module»)
