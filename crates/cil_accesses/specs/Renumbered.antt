-- Accesses with other numbers.
use Rattle.std.specs.Prelude.{◌≡◌, ℕ, ◌+◌, ◌*◌, ◌/◌, ◌<◌, List, true, slice_index}
use Rattle.std.specs.Int.{bit_at}
use Rattle.cil_accesses.specs.declared.access.AccessNumbers.{AccessNumbers}
use Rattle.cil_accesses.specs.declared.chunk.Chunk.{Chunk}
use Rattle.cil_accesses.specs.View.{has_bit, access_at}

-- the numbers of the access are below n
pub record IsWithin (n : ℕ) (a : AccessNumbers) : Type 0 where
  pub source : a.source < n
  pub target : a.target < n
  pub the_class : a.class < n
  pub permission : a.permission < n

-- with the numbers at the places of its own
abbrev pub renumbered : List ℕ → AccessNumbers → AccessNumbers
renumbered numbers a = record {
  kind = a.kind;
  source = slice_index numbers a.source;
  target = slice_index numbers a.target;
  class = slice_index numbers a.class;
  permission = slice_index numbers a.permission;
}

-- the access is that of a chunk to the target of a bit, with the numbers at the places of its own
pub record IsRenumberedAt (numbers : List ℕ) (c : Chunk) (bit : ℕ) (a : AccessNumbers) : Type 0 where
  pub set : has_bit bit c ≡ true
  pub is : a ≡ renumbered numbers (access_at bit c)

-- and to that of one of so many bits
pub record IsRenumbered (numbers : List ℕ) (c : Chunk) (n : ℕ) (a : AccessNumbers) : Type 0 where
  pub bit : ℕ
  pub within : bit < n
  pub at : IsRenumberedAt numbers c bit a

-- and its target stands in a word then
pub record IsRenumberedIn (numbers : List ℕ) (c : Chunk) (word : ℕ) (a : AccessNumbers) : Type 0 where
  pub some : IsRenumbered numbers c 64 a
  pub stands : a.target / 64 ≡ word

-- t is the number of the target of some bit
pub record IsTarget (numbers : List ℕ) (c : Chunk) (t : ℕ) : Type 0 where
  pub bit : ℕ
  pub within : bit < 64
  pub set : has_bit bit c ≡ true
  pub is : slice_index numbers (64 * c.word + bit) ≡ t

-- all targets of a chunk get numbers that are higher by as much
abbrev pub MovesUp : List ℕ → Chunk → ℕ → Type 0
MovesUp numbers c up = (b : ℕ) → b < 64 → has_bit b c ≡ true → slice_index numbers (64 * c.word + b) ≡ 64 * c.word + b + up

-- a bit that is set comes to a place if it moves so many up
pub record IsMoved (bits up place : ℕ) : Type 0 where
  pub bit : ℕ
  pub set : bit_at bits bit ≡ 1
  pub at : bit + up ≡ place
