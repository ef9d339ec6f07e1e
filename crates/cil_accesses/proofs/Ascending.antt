-- The accesses of ascending chunks ascend.
use Rattle.cil_accesses.proofs.Common.{◌≡◌, ◌⊎◌, inl, inr, ℕ, suc, zero, ◌<◌, ◌≤◌, ◌+◌, ◌*◌, List, [], ◌∷◌, filter, length, take, drop, sym, ap, ◌∙◌, subst, arith, Contains, prefix_len, IsStrictlySortedBy, nat_cmp, ordering_then, Ordering, Less, Equal, kind_index, contains-filtered, rule_kind_of, AccessNumbers, Chunk, numbers_cmp, run_cmp, chunk_cmp, IsAccessOf, IsGiven, IsFirstGroup, in_run, has_bit, access_at, at_bit, at_bits, run_accesses, accesses_of}
use Rattle.std.proofs.lemmas.Bool.Decides.{nat_tests}
use Rattle.std.proofs.lemmas.List.Kept.{IsStrictlySortedBy-filter}
use Rattle.cil_specs.proofs.ReportLemmasMembers.{sorted_map}
use Rattle.cil_accesses.proofs.Order.{InOneRun}
use Rattle.cil_accesses.proofs.GroupLemmas.{group-shorter}
use Rattle.cil_accesses.proofs.Lists.{all-by, sorted-join}
use Rattle.cil_accesses.proofs.Members.{IsInRun, in-at_bit, in-at_bits, in-run_accesses, in-accesses_of}
use Rattle.cil_accesses.proofs.RunLemmas.{first-run, then_less, accesses-parts, in-one-run, run-ascends, later-ascends, below-later}

less : (i j : ℕ) → i < j → nat_cmp i j ≡ Less
less i j h = grind (arith, nat_tests)

tie : (i j : ℕ) → i ≡ j → nat_cmp i j ≡ Equal
tie i j h = grind (arith, nat_tests)

from_less : (i j : ℕ) → nat_cmp i j ≡ Less → i < j
from_less i j h = grind (arith, nat_tests)

same-kinds : (a b : AccessNumbers) → a.kind ≡ b.kind → nat_cmp (kind_index (rule_kind_of a.kind)) (kind_index (rule_kind_of b.kind)) ≡ Equal
same-kinds a b e = tie _ _ (ap (λ k. kind_index (rule_kind_of k)) e)

-- accesses of one kind and source are in the order of their targets
below-target : (a b : AccessNumbers) → a.kind ≡ b.kind → a.source ≡ b.source → a.target < b.target → numbers_cmp a b ≡ Less
below-target a b kind source target =
    let rest : Ordering = ordering_then (nat_cmp a.class b.class) (nat_cmp a.permission b.permission) in
    λ i. ordering_then (same-kinds a b kind i) (ordering_then (tie a.source b.source source i) (ordering_then (less a.target b.target target i) rest))

-- at one target, accesses have the order of their chunks
at-one-bit : (b : ℕ) (c d : Chunk) → InOneRun c d → numbers_cmp (access_at b c) (access_at b d) ≡ chunk_cmp c d
at-one-bit b c d same =
    let rest : Ordering = ordering_then (nat_cmp c.class d.class) (nat_cmp c.permission d.permission) in
    let kind = tie (kind_index (rule_kind_of c.kind)) (kind_index (rule_kind_of d.kind)) (ap (λ k. kind_index (rule_kind_of k)) same.kind) in
    let source = tie c.source d.source same.source in
    let target = tie (64 * c.word + b) (64 * d.word + b) (ap (λ w. 64 * w + b) same.word) in
    let word = tie c.word d.word same.word in
    (λ i. ordering_then (kind i) (ordering_then (source i) (ordering_then (target i) rest)))
    ∙ sym (λ i. ordering_then (ordering_then (kind i) (ordering_then (source i) (word i))) rest)

-- accesses of chunks have the order of their runs
below-run : (c d : Chunk) (a b : AccessNumbers) → IsAccessOf c a → IsAccessOf d b → run_cmp c d ≡ Less → numbers_cmp a b ≡ Less
below-run c d a b of_c of_d below = by (then_less _ _ below)
  where
    ka : ℕ
    ka = kind_index (rule_kind_of a.kind)

    kb : ℕ
    kb = kind_index (rule_kind_of b.kind)

    kinds : nat_cmp (kind_index (rule_kind_of c.kind)) (kind_index (rule_kind_of d.kind)) ≡ nat_cmp (kind_index (rule_kind_of a.kind)) (kind_index (rule_kind_of b.kind))
    kinds = λ i. nat_cmp (kind_index (rule_kind_of (sym of_c.kind i))) (kind_index (rule_kind_of (sym of_d.kind i)))

    sources : nat_cmp c.source d.source ≡ nat_cmp a.source b.source
    sources = λ i. nat_cmp (sym of_c.source i) (sym of_d.source i)

    rest : Ordering
    rest = ordering_then (nat_cmp a.class b.class) (nat_cmp a.permission b.permission)

    by : (nat_cmp (kind_index (rule_kind_of c.kind)) (kind_index (rule_kind_of d.kind)) ≡ Less)
        ⊎ ((nat_cmp (kind_index (rule_kind_of c.kind)) (kind_index (rule_kind_of d.kind)) ≡ Equal) × (ordering_then (nat_cmp c.source d.source) (nat_cmp c.word d.word) ≡ Less))
        → numbers_cmp a b ≡ Less
    by (inl first) = ap (λ o. ordering_then o (ordering_then (nat_cmp a.source b.source) (ordering_then (nat_cmp a.target b.target) (ordering_then (nat_cmp a.class b.class) (nat_cmp a.permission b.permission))))) (sym kinds ∙ first)
    by (inr (tied, then)) =
        ap (λ o. ordering_then o (ordering_then (nat_cmp a.source b.source) (ordering_then (nat_cmp a.target b.target) (ordering_then (nat_cmp a.class b.class) (nat_cmp a.permission b.permission))))) (sym kinds ∙ tied)
        ∙ elim (then_less (nat_cmp c.source d.source) (nat_cmp c.word d.word) then) [
          | inl second ↦ ap (λ o. ordering_then o (ordering_then (nat_cmp a.target b.target) (ordering_then (nat_cmp a.class b.class) (nat_cmp a.permission b.permission)))) (sym sources ∙ second)
          | inr last ↦
              let words = from_less c.word d.word last.1 in
              let in_c = of_c.word in
              let in_d = of_d.word in
              (λ i. ordering_then ((sym sources ∙ last.0) i) (ordering_then (less a.target b.target (omega (arith, words, in_c, in_d)) i) (ordering_then (nat_cmp a.class b.class) (nat_cmp a.permission b.permission))))
        ]

-- in one run, those to the target of a bit ascend, and then those to one target after the other
module _ (first : Chunk) (run : List Chunk) (one : (c : Chunk) → Contains run c → InOneRun first c) (sorted : IsStrictlySortedBy chunk_cmp run) where
  both-in-run : (c d : Chunk) → InOneRun first c → InOneRun first d → InOneRun c d
  both-in-run c d p q = record { kind = sym p.kind ∙ q.kind; source = sym p.source ∙ q.source; word = sym p.word ∙ q.word }

  bit-ascends : (b : ℕ) → IsStrictlySortedBy numbers_cmp (at_bit b run)
  bit-ascends b =
      sorted_map (access_at b) chunk_cmp numbers_cmp (InOneRun first) (λ c d p q. at-one-bit b c d (both-in-run c d p q)) (filter (has_bit b) run)
      (all-by (InOneRun first) (filter (has_bit b) run) (λ c h. one c (contains-filtered (has_bit b) run c h)))
      (IsStrictlySortedBy-filter chunk_cmp (has_bit b) run sorted)

  below-bit : (n b : ℕ) (x y : AccessNumbers) → Contains (at_bit b run) x → Contains (at_bits n (b + 1) run) y → numbers_cmp x y ≡ Less
  below-bit n b x y h i =
      let (c, c_in, c_set, c_is) = in-at_bit b run x h in
      let at = in-at_bits n (b + 1) run y i in
      let (d, d_in, d_set, d_is) = in-at_bit at.place run y at.here in
      let same = both-in-run c d (one c c_in) (one d d_in) in
      let low = at.from in
      let word = same.word in
      (λ j. numbers_cmp (sym c_is j) (sym d_is j)) ∙ below-target (access_at b c) (access_at at.place d) same.kind same.source (omega (arith, low, word))

  bits-ascend : (n b : ℕ) → IsStrictlySortedBy numbers_cmp (at_bits n b run)
  unfolding IsStrictlySortedBy
  bits-ascend zero b = tt
  bits-ascend (suc n) b = sorted-join numbers_cmp (at_bit b run) (at_bits n (b + 1) run) (bit-ascends b) (bits-ascend n (b + 1)) (below-bit n b)

  pub run-accesses-ascend : IsStrictlySortedBy numbers_cmp (run_accesses run)
  unfolding run_accesses
  run-accesses-ascend = bits-ascend 64 0

-- the first run, and the others behind it
parted : (n : ℕ) (c : Chunk) (cs : List Chunk) → suc (length cs) ≤ suc n → IsStrictlySortedBy chunk_cmp (c ∷ cs)
    → ((later : List Chunk) → length later ≤ n → IsStrictlySortedBy chunk_cmp later → IsStrictlySortedBy numbers_cmp (accesses_of later)) → IsStrictlySortedBy numbers_cmp (accesses_of (c ∷ cs))
parted n c cs upto sorted others =
    let run : List Chunk = c ∷ take (prefix_len (in_run c) cs) cs in
    let later : List Chunk = drop (prefix_len (in_run c) cs) cs in
    let parts : IsFirstGroup in_run (c ∷ cs) c run later = first-run c cs in
    let short = group-shorter in_run (c ∷ cs) c run later parts in
    subst (IsStrictlySortedBy numbers_cmp) (sym (accesses-parts (c ∷ cs) c run later parts))
    (sorted-join numbers_cmp (run_accesses run) (accesses_of later)
    (run-accesses-ascend c run (in-one-run (c ∷ cs) c run later parts) (run-ascends (c ∷ cs) c run later parts sorted))
    (others later (omega (arith, short, upto)) (later-ascends (c ∷ cs) c run later parts sorted))
    (λ x y h i. across x y parts (in-run_accesses run x h) (in-accesses_of later y i)))
  where
    across : (x y : AccessNumbers) → IsFirstGroup in_run (c ∷ cs) c (c ∷ take (prefix_len (in_run c) cs) cs) (drop (prefix_len (in_run c) cs) cs) → IsInRun (c ∷ take (prefix_len (in_run c) cs) cs) x
        → IsGiven (drop (prefix_len (in_run c) cs) cs) y → numbers_cmp x y ≡ Less
    across x y parts at (k, d, within, is, of_d) =
        below-run at.chunk d x y at.of of_d (below-later (c ∷ cs) c (c ∷ take (prefix_len (in_run c) cs) cs) (drop (prefix_len (in_run c) cs) cs) parts sorted at.chunk d at.among (k, within, is))

-- one run behind the other
ascend-within : (n : ℕ) (chunks : List Chunk) → length chunks ≤ n → IsStrictlySortedBy chunk_cmp chunks → IsStrictlySortedBy numbers_cmp (accesses_of chunks)
unfolding IsStrictlySortedBy accesses_of
ascend-within n [] upto sorted = tt
ascend-within zero (c ∷ chunks) upto sorted = absurd (omega arith)
ascend-within (suc n) (c ∷ chunks) upto sorted = parted n c chunks upto sorted (ascend-within n)

pub accesses-ascend : (chunks : List Chunk) → IsStrictlySortedBy chunk_cmp chunks → IsStrictlySortedBy numbers_cmp (accesses_of chunks)
accesses-ascend chunks sorted = ascend-within (length chunks) chunks (omega arith) sorted
