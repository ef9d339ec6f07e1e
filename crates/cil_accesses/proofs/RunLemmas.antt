-- The first run of chunks, and those after it.
use Rattle.cil_accesses.proofs.Common.{◌≡◌, ◌⊎◌, inl, inr, ℕ, suc, true, false, List, [], ◌∷◌, ◌++◌, length, take, drop, flat_map, refl, sym, ap, ◌∙◌, subst, Contains, prefix_len, IsStrictlySortedBy, is_eq, nat_cmp, ordering_then, ordering_reverse, Ordering, Less, Equal, Greater, equal-is, all-contained, contains-cases, contains-middle, Chunk, run_cmp, chunk_cmp, IsFirstGroup, in_run, run_accesses, accesses_of}
use Rattle.std.proofs.Common.{true≢false}
use Rattle.cil_accesses.proofs.Order.{run_total, run_exact, InOneRun}
use Rattle.cil_accesses.proofs.GroupLemmas.{first-group, groups-parts, prefix-ends, prefix-passes}
use Rattle.cil_accesses.proofs.Lists.{contains-none, sorted-left, sorted-right, sorted-first}

-- there is a first run
pub first-run : (c : Chunk) (cs : List Chunk) → IsFirstGroup in_run (c ∷ cs) c (c ∷ take (prefix_len (in_run c) cs) cs) (drop (prefix_len (in_run c) cs) cs)
first-run c cs = first-group run_total c cs

-- comparisons in turn
pub then_less : (o p : Ordering) → ordering_then o p ≡ Less → (o ≡ Less) ⊎ ((o ≡ Equal) × (p ≡ Less))
then_less Less p e = inl refl
then_less Equal p e = inr (refl, e)
then_less Greater p e = absurd (let none : ⊥ = cc in none)

-- a chunk that is before another and not in its run, is of an earlier run
not-tied : (c d : Chunk) → chunk_cmp c d ≡ Less → in_run c d ≡ false → run_cmp c d ≡ Less
not-tied c d less ends =
    elim (then_less (run_cmp c d) (ordering_then (nat_cmp c.class d.class) (nat_cmp c.permission d.permission)) less) [
      | inl below ↦ below
      | inr tied ↦ absurd (true≢false (sym (ap is_eq tied.0) ∙ ends))
    ]

-- what stands behind a chunk of a later run, is of a later run
behind-run : (c e d : Chunk) (ds : List Chunk) → run_cmp c e ≡ Less → IsStrictlySortedBy chunk_cmp (e ∷ ds) → Contains (e ∷ ds) d → run_cmp c d ≡ Less
behind-run c e d ds less sorted among =
    elim (contains-cases e ds d among) [
      | inl same ↦ subst (λ x. run_cmp c x ≡ Less) same less
      | inr later ↦ elim (then_less (run_cmp e d) (ordering_then (nat_cmp e.class d.class) (nat_cmp e.permission d.permission)) (sorted-first chunk_cmp e ds d sorted later)) [
        | inl below ↦ run_total.trans c e d less below
        | inr tied ↦ run_total.antisymm c d ∙ ap ordering_reverse (sym (run_total.congr e d c tied.0)) ∙ sym (run_total.antisymm c e) ∙ less
      ]
    ]

first-below : (chunks : List Chunk) (first : Chunk) (rest later : List Chunk) → IsStrictlySortedBy chunk_cmp chunks → chunks ≡ first ∷ (rest ++ later) → (n : ℕ) → n ≡ prefix_len (in_run first) (first ∷ (rest ++ later)) → n ≡ suc (length rest)
    → (d : Chunk) → Contains later d → run_cmp first d ≡ Less
first-below chunks first rest [] sorted whole n long count d among = absurd (contains-none d among)
first-below chunks first rest (e ∷ later) sorted whole n long count d among =
    let behind : IsStrictlySortedBy chunk_cmp (first ∷ (rest ++ e ∷ later)) = subst (IsStrictlySortedBy chunk_cmp) whole sorted in
    let ends : in_run first e ≡ false = prefix-ends (in_run first) (first ∷ rest) e later (sym count ∙ long) in
    behind-run first e d later (not-tied first e (sorted-first chunk_cmp first (rest ++ e ∷ later) e behind (contains-middle rest e later)) ends)
    (sorted-right chunk_cmp (first ∷ rest) (e ∷ later) behind) among

-- how a first run parts the chunks
module _ (chunks : List Chunk) (first : Chunk) (run later : List Chunk) (parts : IsFirstGroup in_run chunks first run later) where
  -- the accesses are those of the first run, and those of the later chunks
  pub accesses-parts : accesses_of chunks ≡ run_accesses run ++ accesses_of later
  unfolding accesses_of
  accesses-parts = ap (flat_map run_accesses) (groups-parts run_total chunks first run later parts)

  long-run : length run ≡ prefix_len (in_run first) (run ++ later)
  long-run = parts.all ∙ ap (prefix_len (in_run first)) parts.whole

  -- the chunks of the run are of its kind, source and word
  pub in-first-run : (c : Chunk) → Contains run c → run_cmp first c ≡ Equal
  in-first-run c h = equal-is (run_cmp first c) (all-contained (λ x. in_run first x ≡ true) run c (prefix-passes (in_run first) run later long-run) h)

  pub in-one-run : (c : Chunk) → Contains run c → InOneRun first c
  in-one-run c h = run_exact first c (in-first-run c h)

  pub run-ascends : IsStrictlySortedBy chunk_cmp chunks → IsStrictlySortedBy chunk_cmp run
  run-ascends sorted = sorted-left chunk_cmp run later (subst (IsStrictlySortedBy chunk_cmp) parts.whole sorted)

  pub later-ascends : IsStrictlySortedBy chunk_cmp chunks → IsStrictlySortedBy chunk_cmp later
  later-ascends sorted = sorted-right chunk_cmp run later (subst (IsStrictlySortedBy chunk_cmp) parts.whole sorted)

  -- and the later ones stand behind it
  pub below-later : IsStrictlySortedBy chunk_cmp chunks → (c d : Chunk) → Contains run c → Contains later d → run_cmp c d ≡ Less
  below-later sorted c d h i =
      let back : run_cmp c first ≡ Equal = run_total.antisymm c first ∙ ap ordering_reverse (in-first-run c h) in
      run_total.congr c first d back ∙ first-below chunks first parts.some.0 later sorted (parts.whole ∙ ap (λ l. l ++ later) parts.some.1) (length run)
      (long-run ∙ ap (λ l. prefix_len (in_run first) (l ++ later)) parts.some.1) (ap length parts.some.1) d i
