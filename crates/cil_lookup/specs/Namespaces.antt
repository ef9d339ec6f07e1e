-- Namespaces by numbers: a namespace is the numbers of the words of the blocks around it, the innermost first.
use Rattle.std.specs.Prelude.{◌≤◌, ◌<◌, ◌^◌, ℕ, ◌+◌, List, [], ◌∷◌, ◌++◌, fold, length, slice_index_or, bytes_eq, ◌≡◌, ◌⊎◌, Option, Some, Contains}
use Rattle.std.specs.List.{IsDistinct}
use Rattle.cil_lookup.specs.declared.namespaces.Block.{Block}

-- the namespaces with that of one more block, last
abbrev pub with_block : List (List ℕ) → Block → List (List ℕ)
with_block spaces block = spaces ++ (block.word ∷ slice_index_or spaces block.outer []) ∷ []

-- the global namespace, and then that of each block
abbrev pub spaces_of : List Block → List (List ℕ)
spaces_of blocks = fold with_block ([] ∷ []) blocks

-- each block stands in a namespace in front of its own
abbrev pub AreInside : ℕ → List Block → Type 0
AreInside count [] = Unit {0}
AreInside count (block ∷ blocks) = (block.outer + 1 ≤ count) × AreInside (count + 1) blocks

-- each block stands in a namespace in front of its own, no two namespaces are one, and each has a number
pub record AreSpaces (blocks : List Block) : Type 0 where
  pub inside : AreInside 1 blocks
  pub distinct : IsDistinct bytes_eq (spaces_of blocks)
  pub few : length blocks + 1 < 2 ^ 32

-- The namespaces with that inside a block of this word, if there is a word; a number is that of the namespace.
pub record Opens (old new : List (List ℕ)) (namespace : ℕ) (word : Option ℕ) (n : ℕ) : Type 0 where
  pub kept : (more : List (List ℕ)) × (new ≡ old ++ more)
  pub distinct : IsDistinct bytes_eq old → IsDistinct bytes_eq new
  pub opened : (w : ℕ) → word ≡ Some w → (n < length new) × (slice_index_or new n [] ≡ w ∷ slice_index_or old namespace [])
  pub exact : (space : List ℕ) → Contains new space → Contains old space ⊎ ((w : ℕ) × (word ≡ Some w) × (space ≡ w ∷ slice_index_or old namespace []))
