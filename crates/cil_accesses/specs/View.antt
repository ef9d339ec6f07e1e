-- The accesses of chunks in order.
use Rattle.std.specs.Prelude.{◌≡◌, zero, suc, ℕ, ◌+◌, ◌-◌, ◌*◌, ◌<◌, ◌≤◌, ◌^◌, ◌==◌, Bool, true, false, List, [], ◌++◌, map, filter, flat_map}
use Rattle.std.specs.Int.{bit_at}
use Rattle.std.specs.List.{All}
use Rattle.std.specs.List.Sorted.{IsStrictlySortedBy}
use Rattle.std.specs.Ordering.{eq_by_cmp}
use Rattle.cil_accesses.specs.declared.access.AccessNumbers.{AccessNumbers}
use Rattle.cil_accesses.specs.declared.chunk.Chunk.{Chunk}
use Rattle.cil_accesses.specs.Chunks.{run_cmp, chunk_cmp}
use Rattle.cil_accesses.specs.Groups.{groups_of}

-- whether a chunk stands in the run of another
abbrev pub in_run : Chunk → Chunk → Bool
in_run = eq_by_cmp run_cmp

-- the runs of chunks
abbrev pub runs_of : List Chunk → List (List Chunk)
runs_of chunks = groups_of in_run chunks

-- whether a chunk has the access to the target of a bit
abbrev pub has_bit : ℕ → Chunk → Bool
has_bit b c = bit_at c.bits b == 1

-- the first bit from one on to whose target it has the access
pub record IsNextBit (c : Chunk) (from bit : ℕ) : Type 0 where
  pub from_on : from ≤ bit
  pub within : bit < 64
  pub set : has_bit bit c ≡ true
  pub first : (b : ℕ) → from ≤ b → b < bit → has_bit b c ≡ false

-- it has no access to the target of a bit from one on
abbrev pub NoBitFrom : Chunk → ℕ → Type 0
NoBitFrom c from = (b : ℕ) → from ≤ b → b < 64 → has_bit b c ≡ false

-- the access to the target of a bit
abbrev pub access_at : ℕ → Chunk → AccessNumbers
access_at b c = record { kind = c.kind; source = c.source; target = 64 * c.word + b; class = c.class; permission = c.permission }

-- the accesses of a run to the target of a bit
abbrev pub at_bit : ℕ → List Chunk → List AccessNumbers
at_bit b run = map (access_at b) (filter (has_bit b) run)

-- and to those of so many bits, from one on
abbrev pub at_bits : ℕ → ℕ → List Chunk → List AccessNumbers
at_bits zero b run = []
at_bits (suc n) b run = at_bit b run ++ at_bits n (b + 1) run

-- the accesses of a run in order: one target behind the other
unfoldable pub run_accesses : List Chunk → List AccessNumbers
run_accesses run = at_bits 64 0 run

-- the accesses of a run from one bit on
unfoldable pub from_bit : ℕ → List Chunk → List AccessNumbers
from_bit b run = at_bits (64 - b) b run

-- the accesses of chunks in order: one run behind the other
unfoldable pub accesses_of : List Chunk → List AccessNumbers
accesses_of chunks = flat_map run_accesses (runs_of chunks)

-- the chunks ascend, and their targets are numbers of 32 bits
pub record AreChunks (chunks : List Chunk) : Type 0 where
  pub ordered : IsStrictlySortedBy chunk_cmp chunks
  pub words : All (λ c. c.word < 2 ^ 26) chunks
