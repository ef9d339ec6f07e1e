-- Chunks that are put in order.
use Rattle.cil_accesses.proofs.Common.{◌≡◌, ◌↔◌, ◌<◌, ◌^◌, List, [], refl, sym, subst, Contains, IsPermutation, IsSorted, All, IsStrictlySortedBy, All-nil, recursion_from_All, All-from_recursion, AccessNumbers, Chunk, IsGiven, accesses_of, AreChunks, merged}
use Rattle.std.proofs.lemmas.List.Sorted.{All-permutation, Contains-permutation, IsPermutation-sym}
use Rattle.cil_accesses.specs.contracts.chunk.ChunkOrd.TheImpl as chunk_ord
use Rattle.cil_accesses.proofs.Members.{in-accesses_of, accesses_of-has}
use Rattle.cil_accesses.proofs.Merging.{sorted-ascends, all-merged, merged-given, given-merged}

pub no-chunks : AreChunks []
unfolding IsStrictlySortedBy
no-chunks = record { ordered = tt; words = All-nil (λ c. c.word < 2 ^ 26) }

pub no-accesses : accesses_of [] ≡ []
unfolding accesses_of
no-accesses = refl

-- chunks ascend where they are sorted and merged
pub sorted-are : (xs ys zs : List Chunk) → IsPermutation xs ys → IsSorted (chunk_ord.cmp-value).it ys → zs ≡ merged ys → All (λ c. c.word < 2 ^ 26) xs → AreChunks zs
sorted-are xs ys zs moved sorted is words = subst AreChunks (sym is) (record {
  ordered = sorted-ascends ys sorted;
  words = All-from_recursion (λ c. c.word < 2 ^ 26) (merged ys)
      (all-merged (λ c. c.word < 2 ^ 26) (λ c bits h. h) ys (recursion_from_All (λ c. c.word < 2 ^ 26) ys (All-permutation (λ c. c.word < 2 ^ 26) xs ys moved words)));
})

-- an access stays given where chunks are put in another order
pub given-moved : (xs ys : List Chunk) → IsPermutation xs ys → (a : AccessNumbers) → IsGiven xs a → IsGiven ys a
given-moved xs ys moved a (k, c, within, is, of) =
    let (j, inside, there) = Contains-permutation xs ys c moved (k, within, is) in
    (j, c, inside, there, of)

pub same-accesses : (xs ys zs : List Chunk) → IsPermutation xs ys → zs ≡ merged ys → (a : AccessNumbers) → Contains (accesses_of zs) a ↔ IsGiven xs a
same-accesses xs ys zs moved is a = (
  λ h. given-moved ys xs (IsPermutation-sym xs ys moved) a (merged-given ys a (in-accesses_of (merged ys) a (subst (λ l. Contains (accesses_of l) a) is h))),
  λ h. subst (λ l. Contains (accesses_of l) a) (sym is) (accesses_of-has (merged ys) a (given-merged ys a (given-moved xs ys moved a h))),
)
