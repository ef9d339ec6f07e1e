-- Rows of accesses in order, and how far they are read.
use Rattle.std.specs.Prelude.{◌≡◌, ℕ, ◌+◌, ◌-◌, ◌*◌, ◌<◌, ◌^◌, Bool, true, List, [], ◌∷◌, ◌++◌, length, Contains}
use Rattle.std.specs.Int.{bit_at}
use Rattle.std.specs.List.{All}
use Rattle.std.specs.List.Sorted.{IsStrictlySortedBy}
use Rattle.std.specs.Ordering.{eq_by_cmp, nat_cmp, on, then_cmp}
use Rattle.std.specs.declared.cmp.Ordering.{Ordering}
use Rattle.std.specs.declared.cmp.Ordering.TheVariants.{Less, Equal}
use Rattle.cil_specs.specs.Rule.{kind_index}
use Rattle.cil_text.specs.Image.{rule_kind_of}
use Rattle.cil_accesses.specs.declared.access.AccessNumbers.{AccessNumbers}
use Rattle.cil_accesses.specs.declared.chunk.Chunk.{Chunk}
use Rattle.cil_accesses.specs.declared.rows.AccessRow.{AccessRow}
use Rattle.cil_accesses.specs.declared.rows.RowPlace.{RowPlace}
use Rattle.cil_accesses.specs.Chunks.{run_cmp, chunk_cmp}
use Rattle.cil_accesses.specs.Groups.{groups_of, IsFirstGroup}
use Rattle.cil_accesses.specs.View.{has_bit, at_bit, from_bit, accesses_of, AreChunks}

-- accesses by kind and then by the numbers of their source, target and class
abbrev pub row_cmp : AccessNumbers → AccessNumbers → Ordering
row_cmp = then_cmp (on (λ a. kind_index (rule_kind_of a.kind)) nat_cmp) (then_cmp (on (λ a. a.source) nat_cmp) (then_cmp (on (λ a. a.target) nat_cmp) (on (λ a. a.class) nat_cmp)))

-- whether an access stands in the row of another
abbrev pub in_row : AccessNumbers → AccessNumbers → Bool
in_row = eq_by_cmp row_cmp

-- the rows of accesses in order
abbrev pub rows_of : List AccessNumbers → List (List AccessNumbers)
rows_of accesses = groups_of in_row accesses

-- the accesses of a row
abbrev pub accesses_in : AccessRow → List AccessNumbers
accesses_in row = at_bit row.bit row.chunks.now

-- the first row of some accesses, before the others
pub record IsNextRow (row : AccessRow) (old new : List AccessNumbers) : Type 0 where
  pub bit : row.bit < 64
  pub first : IsFirstGroup in_row old row.first (accesses_in row) new
  pub rows : rows_of old ≡ accesses_in row ∷ rows_of new

-- whether a chunk is of the class of another
abbrev pub class_cmp : Chunk → Chunk → Ordering
class_cmp = on (λ c. c.class) nat_cmp

abbrev pub has_class : Chunk → Chunk → Bool
has_class = eq_by_cmp class_cmp

-- the next chunk that has a bit, the chunks of its class with it, and those after them
pub record IsNextClass (chunks : List Chunk) (bit : ℕ) (first : Chunk) (row later : List Chunk) : Type 0 where
  pub front : List Chunk
  pub rest : List Chunk
  pub whole : chunks ≡ front ++ rest
  pub passed : at_bit bit front ≡ []
  pub set : has_bit bit first ≡ true
  pub group : IsFirstGroup has_class rest first row later

-- the accesses that are left at a place
abbrev pub at_place : RowPlace → List AccessNumbers
at_place p = at_bit p.bit p.left.now ++ (from_bit (p.bit + 1) p.run.now ++ accesses_of p.later.now)

-- how many bits and runs are left at most
abbrev pub size_of : RowPlace → ℕ
size_of p = 64 * length p.later.now + (64 - p.bit)

-- a bit that isn't among these is that of no chunk
abbrev pub HasBitsOf : ℕ → List Chunk → Type 0
HasBitsOf bits run = (b : ℕ) → bit_at bits b ≡ 0 → at_bit b run ≡ []

-- the chunks that are left are of a run, and those behind the run are of later ones
pub record IsPlace (p : RowPlace) : Type 0 where
  pub bit : p.bit < 64
  pub left_ordered : IsStrictlySortedBy chunk_cmp p.left.now
  pub left_of_run : (c : Chunk) → Contains p.left.now c → Contains p.run.now c
  pub run_ordered : IsStrictlySortedBy chunk_cmp p.run.now
  pub run_words : All (λ c. c.word < 2 ^ 26) p.run.now
  pub one_run : (c d : Chunk) → Contains p.run.now c → Contains p.run.now d → run_cmp c d ≡ Equal
  pub bits : HasBitsOf p.bits p.run.now
  pub later : AreChunks p.later.now
  pub apart : (c d : Chunk) → Contains p.run.now c → Contains p.later.now d → run_cmp c d ≡ Less
