-- Accesses appended to others.
use Rattle.std.specs.Prelude.{◌≡◌, ◌↔◌, ◌⊎◌, ℕ, ◌<◌, ◌^◌, List, length, slice_index}
use Rattle.std.specs.List.{All}
use Rattle.cil_accesses.specs.Chunks.{IsGiven}
use Rattle.cil_accesses.specs.declared.access.AccessNumbers.{AccessNumbers}
use Rattle.cil_accesses.specs.declared.chunk.Chunk.{Chunk}
use Rattle.cil_keyed_lines.specs.Keyed.{Keyed, IsLineOf}
use Rattle.cil_keyed_lines.specs.declared.symbol_key.SymbolKey.{SymbolKey}
use Rattle.cil_symbol_changes.specs.Numbered.{access_by, IsNumbered}

-- the targets of a chunk have numbers of 32 bits
abbrev pub IsShort : Chunk → Type 0
IsShort c = c.word < 2 ^ 26

-- the accesses of a key to the targets of a word that a mask has, by symbols
abbrev pub chunk_by : SymbolKey → ℕ → ℕ → Chunk
chunk_by key word mask = record { kind = key.kind; source = key.source; word = word; class = key.class; permission = key.permission; bits = mask }

-- Behind some chunks stand those of the accesses that are told, and of no others.
pub record AreGained (told : AccessNumbers → Type 0) (old new : List Chunk) : Type 0 where
  pub are : (a : AccessNumbers) → IsGiven new a ↔ (IsGiven old a ⊎ told a)
  pub short : All IsShort old → All IsShort new

-- it is the access of a key to one of these targets
pub record IsTo (numbers : List ℕ) (key : SymbolKey) (targets : ℕ → Type 0) (a : AccessNumbers) : Type 0 where
  pub target : ℕ
  pub among : targets target
  pub same : a ≡ access_by numbers key target

-- it is the access of a line's key to a target that stands there
pub record IsIn (numbers : List ℕ) (lines : Keyed) (stands : ℕ → ℕ → ℕ) (a : AccessNumbers) : Type 0 where
  pub place : ℕ
  pub key : SymbolKey
  pub line : IsLineOf lines place key
  pub target : ℕ
  pub among : 0 < stands place target
  pub same : a ≡ access_by numbers key target

-- each symbol is its own number
abbrev pub AreKept : List ℕ → Type 0
AreKept numbers = (t : ℕ) → t < length numbers → slice_index numbers t ≡ t

-- the symbols of a key and of these targets have numbers
abbrev pub AreKnown : List ℕ → SymbolKey → (ℕ → ℕ) → Type 0
AreKnown numbers key stands = (t : ℕ) → 0 < stands t → IsNumbered numbers key t

-- so do those of each line's key
abbrev pub AreKnownIn : List ℕ → Keyed → (ℕ → ℕ → ℕ) → Type 0
AreKnownIn numbers lines stands = (place : ℕ) (key : SymbolKey) → IsLineOf lines place key → AreKnown numbers key (stands place)
