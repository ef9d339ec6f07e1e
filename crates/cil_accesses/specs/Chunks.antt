-- The accesses of chunks, and the orders of both.
use Rattle.std.specs.Prelude.{◌≡◌, zero, suc, ℕ, ◌+◌, ◌/◌, ◌%◌, List, Any}
use Rattle.std.specs.Int.{bit_at}
use Rattle.std.specs.Ordering.{nat_cmp, on, then_cmp}
use Rattle.std.specs.declared.cmp.Ordering.{Ordering}
use Rattle.cil_specs.specs.Rule.{kind_index}
use Rattle.cil_text.specs.Image.{rule_kind_of}
use Rattle.cil_text.specs.declared.statement.RuleKind.TheVariants.{Allow}
use Rattle.cil_accesses.specs.declared.access.AccessNumbers.{AccessNumbers}
use Rattle.cil_accesses.specs.declared.chunk.Chunk.{Chunk}

-- accesses by kind and then by their numbers in turn
abbrev pub numbers_cmp : AccessNumbers → AccessNumbers → Ordering
numbers_cmp = then_cmp (on (λ a. kind_index (rule_kind_of a.kind)) nat_cmp) (then_cmp (on (λ a. a.source) nat_cmp) (then_cmp (on (λ a. a.target) nat_cmp)
    (then_cmp (on (λ a. a.class) nat_cmp) (on (λ a. a.permission) nat_cmp))))

-- chunks by kind, source and word: those of one run stand together
abbrev pub run_cmp : Chunk → Chunk → Ordering
run_cmp = then_cmp (on (λ c. kind_index (rule_kind_of c.kind)) nat_cmp) (then_cmp (on (λ c. c.source) nat_cmp) (on (λ c. c.word) nat_cmp))

-- and then by class and permission, whatever their bits
abbrev pub chunk_cmp : Chunk → Chunk → Ordering
chunk_cmp = then_cmp run_cmp (then_cmp (on (λ c. c.class) nat_cmp) (on (λ c. c.permission) nat_cmp))

-- the access is one of a chunk
pub record IsAccessOf (c : Chunk) (a : AccessNumbers) : Type 0 where
  pub kind : a.kind ≡ c.kind
  pub source : a.source ≡ c.source
  pub word : a.target / 64 ≡ c.word
  pub the_class : a.class ≡ c.class
  pub permission : a.permission ≡ c.permission
  pub bit : bit_at c.bits (a.target % 64) ≡ 1

-- the access is one of some chunk
abbrev pub IsGiven : List Chunk → AccessNumbers → Type 0
IsGiven chunks a = Any (λ c. IsAccessOf c a) chunks

-- how many of so many bits, from one on, are set
abbrev pub set_from : ℕ → ℕ → ℕ → ℕ
set_from zero b bits = 0
set_from (suc n) b bits = bit_at bits b + set_from n (b + 1) bits

-- how many accesses a chunk has
unfoldable pub ones_of : Chunk → ℕ
ones_of c = set_from 64 0 c.bits

-- a chunk with other bits
abbrev pub with_bits : Chunk → ℕ → Chunk
with_bits c bits = record { kind = c.kind; source = c.source; word = c.word; class = c.class; permission = c.permission; bits = bits }

-- the chunk that a place past the end of a list is read as
abbrev pub nowhere : Chunk
nowhere = record { kind = Allow; source = 0; word = 0; class = 0; permission = 0; bits = 0 }
