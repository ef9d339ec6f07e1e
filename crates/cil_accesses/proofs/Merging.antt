-- Chunks that are merged.
use Rattle.cil_accesses.proofs.Common.{◌≡◌, ◌⊎◌, inl, inr, ℕ, suc, ◌<◌, ◌%◌, add-one, Bool, true, false, cond, List, [], ◌∷◌, get_or, length, bit_or, refl, sym, ap, ◌∙◌, subst, arith, IsSorted, bit_at, AllByRecursion, IsStrictlySortedBy, nat_cmp, ordering_then, ordering_reverse, is_eq, is_lt, Ordering, Less, Equal, Greater, cases_eq, true≢false, bit_at-lt, bit_at_or, equal-is, contains-cases, contains-first, contains-other, AccessNumbers, Chunk, chunk_cmp, IsAccessOf, IsGiven, with_bits, nowhere, of_one_key, taking_up, merged_from, merged}
use Rattle.std.specs.Bool.{MatchBool}
use Rattle.std.specs.List.Retain.{DedupsFrom, IsDeduped}
use Rattle.cil_accesses.specs.contracts.chunk.ChunkOrd.TheImpl as chunk_ord
use Rattle.cil_accesses.proofs.Order.{derived-chunk, chunk_total, chunk_exact}

-- ---- what one walk over the chunks leaves

module _ {S : Type 0} (R : S → Chunk → Chunk → Bool → S → Chunk → Chunk → Type 0)
    (told : (s : S) (d c : Chunk) (b : Bool) (t : S) (d' c' : Chunk) → R s d c b t d' c' → (b ≡ of_one_key c d) × ((d' ≡ d) × (c' ≡ taking_up c d))) where
  walked-from : (s : S) (c : Chunk) (chunks left : List Chunk) → DedupsFrom R s c chunks left → left ≡ merged_from c chunks
  walked-from s c [] left walk = walk
  walked-from s c (d ∷ chunks) left (b, t, d', c', step, rest) =
      let (said, (d_is, c_is)) = told s d c b t d' c' step in
      by b said (c_is ∙ ap (λ k. cond k (with_bits c (bit_or c.bits d.bits)) c) (sym said)) (walked-from t c' chunks left)
      (λ zs h. walked-from t d' chunks zs h ∙ ap (λ x. merged_from x chunks) d_is) rest
    where
      by : (k : Bool) → k ≡ of_one_key c d → c' ≡ cond k (with_bits c (bit_or c.bits d.bits)) c → (DedupsFrom R t c' chunks left → left ≡ merged_from c' chunks)
          → ((zs : List Chunk) → DedupsFrom R t d' chunks zs → zs ≡ merged_from d chunks)
          → MatchBool k (DedupsFrom R t c' chunks left) ((zs : List Chunk) × DedupsFrom R t d' chunks zs × (left ≡ c' ∷ zs))
          → left ≡ cond (of_one_key c d) (merged_from (with_bits c (bit_or c.bits d.bits)) chunks) (c ∷ merged_from d chunks)
      by true said c_is same other h =
          same h ∙ ap (λ x. merged_from x chunks) c_is ∙ ap (λ k. cond k (merged_from (with_bits c (bit_or c.bits d.bits)) chunks) (c ∷ merged_from d chunks)) said
      by false said c_is same other (zs, h, is) =
          is ∙ (λ i. c_is i ∷ other zs h i) ∙ ap (λ k. cond k (merged_from (with_bits c (bit_or c.bits d.bits)) chunks) (c ∷ merged_from d chunks)) said

  pub walked : (s : S) (chunks left : List Chunk) → IsDeduped R s chunks left → left ≡ merged chunks
  walked s [] left walk = walk.told
  walked s (c ∷ chunks) left walk = walked-from s c chunks left walk.told

-- ---- the order

-- from a chunk on no chunk is below the one before it
abbrev Climbs : Chunk → List Chunk → Type 0
Climbs c [] = Unit {0}
Climbs c (d ∷ chunks) = (chunk_cmp c d ≡ Greater → ⊥) × Climbs d chunks

climbs-from : (c : Chunk) (chunks : List Chunk) → ((k : ℕ) → suc k < length (c ∷ chunks) → chunk_cmp (get_or (c ∷ chunks) k nowhere) (get_or (c ∷ chunks) (suc k) nowhere) ≡ Greater → ⊥) → Climbs c chunks
climbs-from c [] each = tt
climbs-from c (d ∷ chunks) each = (
  each 0 (omega arith),
  climbs-from d chunks (λ k h. each (suc k) (omega arith)),
)

-- a chunk of one key is of the same place
climbs-same : (c d : Chunk) (chunks : List Chunk) → chunk_cmp c d ≡ Equal → Climbs d chunks → Climbs c chunks
climbs-same c d [] same climbs = tt
climbs-same c d (e ∷ chunks) same climbs = (λ above. climbs.0 (sym (chunk_total.congr c d e same) ∙ above), climbs.1)

climbs-bits : (c : Chunk) (bits : ℕ) (chunks : List Chunk) → Climbs c chunks → Climbs (with_bits c bits) chunks
climbs-bits c bits [] climbs = tt
climbs-bits c bits (d ∷ chunks) climbs = climbs

below-from : (o : Ordering) → is_eq o ≡ false → (o ≡ Greater → ⊥) → o ≡ Less
below-from Less apart not_above = refl
below-from Equal apart not_above = absurd (true≢false apart)
below-from Greater apart not_above = absurd (not_above refl)

-- what stands below a chunk, stands below those that are merged from it on
merged-above : (c : Chunk) (chunks : List Chunk) → Climbs c chunks → (e : Chunk) → chunk_cmp e c ≡ Less → AllByRecursion (λ x. chunk_cmp e x ≡ Less) (merged_from c chunks)
merged-above c [] climbs e below = (below, tt)
merged-above c (d ∷ chunks) climbs e below = by (λ h. merged-above (with_bits c (bit_or c.bits d.bits)) chunks h e below) (merged-above d chunks climbs.1 e) (of_one_key c d) refl
  where
    by : (Climbs (with_bits c (bit_or c.bits d.bits)) chunks → AllByRecursion (λ x. chunk_cmp e x ≡ Less) (merged_from (with_bits c (bit_or c.bits d.bits)) chunks))
        → (chunk_cmp e d ≡ Less → AllByRecursion (λ x. chunk_cmp e x ≡ Less) (merged_from d chunks)) → (k : Bool) → of_one_key c d ≡ k → AllByRecursion (λ x. chunk_cmp e x ≡ Less) (cond k (merged_from (with_bits c (bit_or c.bits d.bits)) chunks) (c ∷ merged_from d chunks))
    by one other true same = one (climbs-bits c (bit_or c.bits d.bits) chunks (climbs-same c d chunks (equal-is (chunk_cmp c d) same) climbs.1))
    by one other false apart = (below, other (chunk_total.trans e c d below (below-from (chunk_cmp c d) apart climbs.0)))

merged-ascends : (c : Chunk) (chunks : List Chunk) → Climbs c chunks → IsStrictlySortedBy chunk_cmp (merged_from c chunks)
unfolding IsStrictlySortedBy
merged-ascends c [] climbs = (tt, tt)
merged-ascends c (d ∷ chunks) climbs = by (merged-ascends (with_bits c (bit_or c.bits d.bits)) chunks) (merged-ascends d chunks climbs.1) (of_one_key c d) refl
  where
    by : (Climbs (with_bits c (bit_or c.bits d.bits)) chunks → IsStrictlySortedBy chunk_cmp (merged_from (with_bits c (bit_or c.bits d.bits)) chunks)) → IsStrictlySortedBy chunk_cmp (merged_from d chunks) → (k : Bool) → of_one_key c d ≡ k → IsStrictlySortedBy chunk_cmp (cond k (merged_from (with_bits c (bit_or c.bits d.bits)) chunks) (c ∷ merged_from d chunks))
    by one other true same = one (climbs-bits c (bit_or c.bits d.bits) chunks (climbs-same c d chunks (equal-is (chunk_cmp c d) same) climbs.1))
    by one other false apart = (merged-above d chunks climbs.1 c (below-from (chunk_cmp c d) apart climbs.0), other)

-- what the derived order doesn't tell below, is not below by its key
not-above : (o p r : Ordering) → o ≡ ordering_then (ordering_reverse p) r → is_lt o ≡ false → p ≡ Greater → ⊥
not-above o p r is not_less above =
    true≢false (sym (ap is_lt (is ∙ ap (λ q. ordering_then (ordering_reverse q) r) above)) ∙ not_less)

pub sorted-ascends : (chunks : List Chunk) → IsSorted (chunk_ord.cmp-value).it chunks → IsStrictlySortedBy chunk_cmp (merged chunks)
unfolding IsStrictlySortedBy
sorted-ascends [] sorted = tt
sorted-ascends (c ∷ chunks) sorted = merged-ascends c chunks (climbs-from c chunks climbs)
  where
    climbs : (k : ℕ) → suc k < length (c ∷ chunks) → chunk_cmp (get_or (c ∷ chunks) k nowhere) (get_or (c ∷ chunks) (suc k) nowhere) ≡ Greater → ⊥
    climbs k within =
        let x = get_or (c ∷ chunks) k nowhere in
        let y = get_or (c ∷ chunks) (suc k) nowhere in
        not-above _ (chunk_cmp x y) (nat_cmp y.bits x.bits) (derived-chunk y x ∙ ap (λ o. ordering_then o (nat_cmp y.bits x.bits)) (chunk_total.antisymm y x))
        (subst (λ n. is_lt ((chunk_ord.cmp-value).it (get_or (c ∷ chunks) n nowhere) x) ≡ false) (add-one k) (sorted k nowhere (omega arith) (omega arith)))

-- ---- what all chunks have that doesn't speak of bits

module _ (P : Chunk → Type 0) (whatever : (c : Chunk) (bits : ℕ) → P c → P (with_bits c bits)) where
  all-from : (c : Chunk) (chunks : List Chunk) → P c → AllByRecursion P chunks → AllByRecursion P (merged_from c chunks)
  all-from c [] first others = (first, tt)
  all-from c (d ∷ chunks) first others = by (all-from (with_bits c (bit_or c.bits d.bits)) chunks (whatever c (bit_or c.bits d.bits) first) others.1) (all-from d chunks others.0 others.1) (of_one_key c d)
    where
      by : AllByRecursion P (merged_from (with_bits c (bit_or c.bits d.bits)) chunks) → AllByRecursion P (merged_from d chunks) → (k : Bool) → AllByRecursion P (cond k (merged_from (with_bits c (bit_or c.bits d.bits)) chunks) (c ∷ merged_from d chunks))
      by one other true = one
      by one other false = (first, other)

  pub all-merged : (chunks : List Chunk) → AllByRecursion P chunks → AllByRecursion P (merged chunks)
  all-merged [] all = tt
  all-merged (c ∷ chunks) all = all-from c chunks all.0 all.1

-- ---- the accesses

pub given-cases : (c : Chunk) (chunks : List Chunk) (a : AccessNumbers) → IsGiven (c ∷ chunks) a → IsAccessOf c a ⊎ IsGiven chunks a
given-cases c chunks a (k, d, within, is, of) =
    elim (contains-cases c chunks d (k, within, is)) [
      | inl same ↦ inl (subst (λ x. IsAccessOf x a) (sym same) of)
      | inr later ↦ inr (later.0, d, later.1, later.2, of)
    ]

pub given-first : (c : Chunk) (chunks : List Chunk) (a : AccessNumbers) → IsAccessOf c a → IsGiven (c ∷ chunks) a
given-first c chunks a of = let (k, within, is) = contains-first c chunks in (k, c, within, is, of)

pub given-other : (c : Chunk) (chunks : List Chunk) (a : AccessNumbers) → IsGiven chunks a → IsGiven (c ∷ chunks) a
given-other c chunks a (k, d, within, is, of) = let (j, inside, there) = contains-other c chunks d (k, within, is) in (j, d, inside, there, of)

-- the accesses of two chunks of one key are those of both
pub one-of-both : (c d : Chunk) (a : AccessNumbers) → chunk_cmp c d ≡ Equal → IsAccessOf (with_bits c (bit_or c.bits d.bits)) a → IsAccessOf c a ⊎ IsAccessOf d a
one-of-both c d a same of = by (cases_eq (bit_at c.bits (a.target % 64)) 1)
  where
    by : (bit_at c.bits (a.target % 64) ≡ 1) ⊎ (bit_at c.bits (a.target % 64) ≡ 1 → ⊥) → IsAccessOf c a ⊎ IsAccessOf d a
    by (inl set) = inl (record { kind = of.kind; source = of.source; word = of.word; the_class = of.the_class; permission = of.permission; bit = set })
    by (inr unset) =
        let key = chunk_exact c d same in
        let set = of.bit in
        inr (record {
          kind = of.kind ∙ key.run.kind;
          source = of.source ∙ key.run.source;
          word = of.word ∙ key.run.word;
          the_class = of.the_class ∙ key.the_class;
          permission = of.permission ∙ key.permission;
          bit = omega (arith, unset, set, bit_at_or c.bits d.bits (a.target % 64), bit_at-lt c.bits (a.target % 64));
        })

pub both-first : (c d : Chunk) (a : AccessNumbers) → IsAccessOf c a → IsAccessOf (with_bits c (bit_or c.bits d.bits)) a
both-first c d a of = let set = of.bit in record {
  kind = of.kind;
  source = of.source;
  word = of.word;
  the_class = of.the_class;
  permission = of.permission;
  bit = omega (arith, set, bit_at_or c.bits d.bits (a.target % 64), bit_at-lt d.bits (a.target % 64));
}

pub both-second : (c d : Chunk) (a : AccessNumbers) → chunk_cmp c d ≡ Equal → IsAccessOf d a → IsAccessOf (with_bits c (bit_or c.bits d.bits)) a
both-second c d a same of = let key = chunk_exact c d same in let set = of.bit in record {
  kind = of.kind ∙ sym key.run.kind;
  source = of.source ∙ sym key.run.source;
  word = of.word ∙ sym key.run.word;
  the_class = of.the_class ∙ sym key.the_class;
  permission = of.permission ∙ sym key.permission;
  bit = omega (arith, set, bit_at_or c.bits d.bits (a.target % 64), bit_at-lt c.bits (a.target % 64));
}

from-merged : (c : Chunk) (chunks : List Chunk) (a : AccessNumbers) → IsGiven (merged_from c chunks) a → IsGiven (c ∷ chunks) a
from-merged c [] a given = given
from-merged c (d ∷ chunks) a given = by (from-merged (with_bits c (bit_or c.bits d.bits)) chunks a) (from-merged d chunks a) (of_one_key c d) refl given
  where
    by : (IsGiven (merged_from (with_bits c (bit_or c.bits d.bits)) chunks) a → IsGiven (with_bits c (bit_or c.bits d.bits) ∷ chunks) a) → (IsGiven (merged_from d chunks) a → IsGiven (d ∷ chunks) a) → (k : Bool) → of_one_key c d ≡ k → IsGiven (cond k (merged_from (with_bits c (bit_or c.bits d.bits)) chunks) (c ∷ merged_from d chunks)) a → IsGiven (c ∷ d ∷ chunks) a
    by one other true same h =
        elim (given-cases (with_bits c (bit_or c.bits d.bits)) chunks a (one h)) [
          | inl both ↦ elim (one-of-both c d a (equal-is (chunk_cmp c d) same) both) [
            | inl first ↦ given-first c (d ∷ chunks) a first
            | inr second ↦ given-other c (d ∷ chunks) a (given-first d chunks a second)
          ]
          | inr later ↦ given-other c (d ∷ chunks) a (given-other d chunks a later)
        ]
    by one other false apart h =
        elim (given-cases c (merged_from d chunks) a h) [
          | inl first ↦ given-first c (d ∷ chunks) a first
          | inr later ↦ given-other c (d ∷ chunks) a (other later)
        ]

to-merged : (c : Chunk) (chunks : List Chunk) (a : AccessNumbers) → IsGiven (c ∷ chunks) a → IsGiven (merged_from c chunks) a
to-merged c [] a given = given
to-merged c (d ∷ chunks) a given = by (to-merged (with_bits c (bit_or c.bits d.bits)) chunks a) (to-merged d chunks a) (of_one_key c d) refl (given-cases c (d ∷ chunks) a given)
  where
    by : (IsGiven (with_bits c (bit_or c.bits d.bits) ∷ chunks) a → IsGiven (merged_from (with_bits c (bit_or c.bits d.bits)) chunks) a) → (IsGiven (d ∷ chunks) a → IsGiven (merged_from d chunks) a) → (k : Bool) → of_one_key c d ≡ k → IsAccessOf c a ⊎ IsGiven (d ∷ chunks) a → IsGiven (cond k (merged_from (with_bits c (bit_or c.bits d.bits)) chunks) (c ∷ merged_from d chunks)) a
    by one other true same (inl first) =
        one (given-first (with_bits c (bit_or c.bits d.bits)) chunks a (both-first c d a first))
    by one other true same (inr later) =
        one (elim (given-cases d chunks a later) [
          | inl second ↦ given-first (with_bits c (bit_or c.bits d.bits)) chunks a (both-second c d a (equal-is (chunk_cmp c d) same) second)
          | inr others ↦ given-other (with_bits c (bit_or c.bits d.bits)) chunks a others
        ])
    by one other false apart (inl first) = given-first c (merged_from d chunks) a first
    by one other false apart (inr later) = given-other c (merged_from d chunks) a (other later)

pub merged-given : (chunks : List Chunk) (a : AccessNumbers) → IsGiven (merged chunks) a → IsGiven chunks a
merged-given [] a given = given
merged-given (c ∷ chunks) a given = from-merged c chunks a given

pub given-merged : (chunks : List Chunk) (a : AccessNumbers) → IsGiven chunks a → IsGiven (merged chunks) a
given-merged [] a given = given
given-merged (c ∷ chunks) a given = to-merged c chunks a given
