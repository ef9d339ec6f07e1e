-- Chunks of one key that stand one behind the other, merged.
use Rattle.std.specs.Prelude.{List, Bool, [], ◌∷◌, bit_or, if◌then◌else◌}
use Rattle.std.specs.Ordering.{eq_by_cmp}
use Rattle.cil_accesses.specs.declared.chunk.Chunk.{Chunk}
use Rattle.cil_accesses.specs.Chunks.{chunk_cmp}
use Rattle.cil_accesses.specs.Chunks.{with_bits}

-- whether two chunks are of one kind, source, word, class and permission
abbrev pub of_one_key : Chunk → Chunk → Bool
of_one_key = eq_by_cmp chunk_cmp

-- a chunk with the bits of another as well, where both are of one key
abbrev pub taking_up : Chunk → Chunk → Chunk
taking_up c d = if of_one_key c d then with_bits c (bit_or c.bits d.bits) else c

-- a chunk and those after it, where one takes up those of its key that follow it
abbrev pub merged_from : Chunk → List Chunk → List Chunk
merged_from c [] = c ∷ []
merged_from c (d ∷ chunks) = if of_one_key c d then merged_from (with_bits c (bit_or c.bits d.bits)) chunks else (c ∷ merged_from d chunks)

abbrev pub merged : List Chunk → List Chunk
merged [] = []
merged (c ∷ chunks) = merged_from c chunks
