use Rattle.cil_accesses.proofs.Common.{◌≡◌, ◌-◌, ◌∙◌, IsPermutation, List, length, subst, sym, with_items_is, Chunk}
use Rattle.std.proofs.lemmas.List.Sorted.{IsPermutation-put_mid, length_permutation}
use Rattle.cil_accesses.proofs.ordering.sort_from.Goals as goal

-- the same list in another order
moved-from : (old all now : List Chunk) → all ≡ old → IsPermutation all now → IsPermutation old now
moved-from old all now is moved = subst (λ xs. IsPermutation xs now) is moved

pub returns-then-start-len : goal.returns-then-start-len
returns-then-start-len g c =
    let all : List Chunk = c.deref_mut.result.now in
    let moved = IsPermutation-put_mid c.args.start (length all - c.args.start) all c.sort_unstable.new.self c.sort_unstable.ensures.permutation in
    let stored = with_items_is c.args.chunks.now _ (length_permutation all _ moved ∙ c.deref_mut.ensures.len) in
    subst (IsPermutation c.args.chunks.now.items) (sym stored) (moved-from c.args.chunks.now.items all _ c.deref_mut.ensures.value moved)
