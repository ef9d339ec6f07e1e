-- From place to place among the rows.
use Rattle.cil_accesses.proofs.Common.{◌≡◌, ◌⊎◌, inl, inr, ◌==◌, bit_or, get_or, false, cond, ℕ, ◌+◌, ◌^◌, ◌<◌, ◌≤◌, not, List, [], ◌∷◌, ◌++◌, length, take, drop, map, slice_get, Some, sym, ap, ◌∙◌, subst, arith, append_assoc, Contains, Bor, All, prefix_len, IsStrictlySortedBy, bit_at, take-append-drop, take_more, bit_at_or, All-nil, AccessNumbers, Chunk, RowPlace, chunk_cmp, IsFirstGroup, has_class, at_place, size_of, HasBitsOf, IsNextClass, IsNextRow, IsPlace, in_run, has_bit, access_at, at_bit, from_bit, accesses_of, AreChunks}
use Rattle.cil_accesses.proofs.GroupLemmas.{group-front, group-shorter}
use Rattle.cil_accesses.proofs.Lists.{contains-none}
use Rattle.cil_accesses.proofs.Made.{no-accesses}
use Rattle.cil_accesses.proofs.Order.{run_total}
use Rattle.cil_accesses.proofs.Places.{from_bit-first, from_bit-more, from_bit-none, run-all, later-all}
use Rattle.cil_accesses.proofs.RowPlaces.{skipped-none, found-passes, none-passes, class_total, first-row, first-rows, at_bit-append, later-of-run, later-ordered}
use Rattle.cil_accesses.proofs.RunLemmas.{accesses-parts, in-first-run, run-ascends, later-ascends, below-later}

-- what is split off
pub next-class : (chunks : List Chunk) (bit n m : ℕ) (rest : List Chunk) (first : Chunk) (row later : List Chunk) → n ≡ prefix_len (λ c. not (has_bit bit c)) chunks → rest ≡ drop n chunks → Some first ≡ slice_get rest 0
    → m ≡ prefix_len (has_class first) rest → row ≡ take m rest → later ≡ drop m rest → length row ≡ m → IsNextClass chunks bit first row later
next-class chunks bit n m rest first row later n_is rest_is first_is m_is row_is later_is long = record {
  front = take n chunks;
  rest = rest;
  whole = sym (take-append-drop n chunks) ∙ ap (λ l. take n chunks ++ l) (sym rest_is);
  passed = ap (λ k. at_bit bit (take k chunks)) n_is ∙ ap (map (access_at bit)) (skipped-none (has_bit bit) chunks);
  set = found-passes (has_bit bit) chunks first (first_is ∙ ap (λ l. slice_get l 0) (rest_is ∙ ap (λ k. drop k chunks) n_is));
  group = group-front class_total rest first m row later first_is m_is row_is later_is long;
}

pub no-class : (chunks : List Chunk) (bit n : ℕ) → n ≡ prefix_len (λ c. not (has_bit bit c)) chunks → drop n chunks ≡ [] → at_bit bit chunks ≡ []
no-class chunks bit n n_is past = ap (map (access_at bit)) (none-passes (has_bit bit) chunks (ap (λ k. drop k chunks) (sym n_is) ∙ past))

-- behind a row
abbrev pub behind : RowPlace → Bor (List Chunk) → RowPlace
behind p left = record { run = p.run; bits = p.bits; left = left; bit = p.bit; later = p.later }

-- at any bit of the run, with any rows of it left
same-run : (p : RowPlace) (bit : ℕ) (left : Bor (List Chunk)) → IsPlace p → bit < 64 → IsStrictlySortedBy chunk_cmp left.now → ((c : Chunk) → Contains left.now c → Contains p.run.now c)
    → IsPlace (record { run = p.run; bits = p.bits; left = left; bit = bit; later = p.later })
same-run p bit left at low ordered of_run = record {
  bit = low;
  left_ordered = ordered;
  left_of_run = of_run;
  run_ordered = at.run_ordered;
  run_words = at.run_words;
  one_run = at.one_run;
  bits = at.bits;
  later = at.later;
  apart = at.apart;
}

pub behind-is : (p : RowPlace) (left : Bor (List Chunk)) → IsPlace p → (first : Chunk) (row : List Chunk) → IsNextClass p.left.now p.bit first row left.now → IsPlace (behind p left)
behind-is p left at first row next = same-run p p.bit left at at.bit (later-ordered p at first row left.now next) (later-of-run p at first row left.now next)

pub row-is : (p : RowPlace) (left chunks : Bor (List Chunk)) (a : AccessNumbers) → IsPlace p → (first : Chunk) → IsNextClass p.left.now p.bit first chunks.now left.now → a ≡ access_at p.bit first
    → IsNextRow (record { first = a; chunks = chunks; bit = p.bit }) (at_place p) (at_place (behind p left))
row-is p left chunks a at first next is = record {
  bit = at.bit;
  first = first-row p at first chunks.now left.now next a is;
  rows = first-rows p at first chunks.now left.now next a is;
}

-- the bits of chunks
pub bits-more : (run : List Chunk) (i bits : ℕ) (d : Chunk) → i < length run → HasBitsOf bits (take i run) → HasBitsOf (bit_or bits (get_or run i d).bits) (take (i + 1) run)
bits-more run i bits d within so_far b none =
    let c : Chunk = get_or run i d in
    let both = bit_at_or bits c.bits b in
    let before : bit_at bits b ≡ 0 = omega (arith, both, none) in
    let here : bit_at c.bits b ≡ 0 = omega (arith, both, none) in
    let unset : has_bit b c ≡ false = ap (λ n. n == 1) here in
    ap (at_bit b) (take_more run i d within) ∙ at_bit-append b (take i run) (c ∷ []) ∙ (λ k. so_far b before k ++ map (access_at b) (cond (unset k) (c ∷ []) []))

-- all of a run, or nothing
part-ordered : (l run : List Chunk) → (l ≡ run) ⊎ (l ≡ []) → IsStrictlySortedBy chunk_cmp run → IsStrictlySortedBy chunk_cmp l
unfolding IsStrictlySortedBy
part-ordered l run (inl is) sorted = subst (IsStrictlySortedBy chunk_cmp) (sym is) sorted
part-ordered l run (inr none) sorted = subst (IsStrictlySortedBy chunk_cmp) (sym none) tt

part-of : (l run : List Chunk) → (l ≡ run) ⊎ (l ≡ []) → (c : Chunk) → Contains l c → Contains run c
part-of l run (inl is) c h = subst (λ m. Contains m c) is h
part-of l run (inr none) c h = absurd (contains-none c (subst (λ m. Contains m c) none h))

-- at the next bit
abbrev pub at-next : RowPlace → Bor (List Chunk) → RowPlace
at-next p left = record { run = p.run; bits = p.bits; left = left; bit = p.bit + 1; later = p.later }

module _ (p : RowPlace) (at : IsPlace p) (none : at_bit p.bit p.left.now ≡ []) where
  skipped-bit : at_place p ≡ from_bit (p.bit + 1) p.run.now ++ accesses_of p.later.now
  skipped-bit = ap (λ l. l ++ (from_bit (p.bit + 1) p.run.now ++ accesses_of p.later.now)) none

  pub next-place : (left : Bor (List Chunk)) → (left.now ≡ p.run.now) ⊎ (left.now ≡ []) → p.bit < 63 → IsPlace (at-next p left)
  next-place left part more = same-run p (p.bit + 1) left at (omega (arith, more)) (part-ordered left.now p.run.now part at.run_ordered) (part-of left.now p.run.now part)

  pub next-same : (left : Bor (List Chunk)) → at_bit (p.bit + 1) left.now ≡ at_bit (p.bit + 1) p.run.now → p.bit < 63 → at_place (at-next p left) ≡ at_place p
  next-same left same more =
      ap (λ l. l ++ (from_bit (p.bit + 1 + 1) p.run.now ++ accesses_of p.later.now)) same
      ∙ sym (append_assoc (at_bit (p.bit + 1) p.run.now) (from_bit (p.bit + 1 + 1) p.run.now) (accesses_of p.later.now))
      ∙ ap (λ l. l ++ accesses_of p.later.now) (sym (from_bit-more (p.bit + 1) p.run.now (omega (arith, more))))
      ∙ sym skipped-bit

  -- at the first bit of the next run
  run-behind : 63 ≤ p.bit → at_place p ≡ accesses_of p.later.now
  run-behind past = skipped-bit ∙ ap (λ l. l ++ accesses_of p.later.now) (from_bit-none (p.bit + 1) p.run.now (omega (arith, past)))

  pub no-run : 63 ≤ p.bit → p.later.now ≡ [] → at_place p ≡ []
  no-run past ended = run-behind past ∙ ap accesses_of ended ∙ no-accesses

  module _ (past : 63 ≤ p.bit) (run later left : Bor (List Chunk)) (bits : ℕ) (first : Chunk) (parts : IsFirstGroup in_run p.later.now first run.now later.now) where
    abbrev pub at-run : RowPlace
    at-run = record { run = run; bits = bits; left = left; bit = 0; later = later }

    pub run-place : HasBitsOf bits run.now → (left.now ≡ run.now) ⊎ (left.now ≡ []) → IsPlace at-run
    run-place bits_are part = record {
      bit = omega arith;
      left_ordered = part-ordered left.now run.now part (run-ascends p.later.now first run.now later.now parts at.later.ordered);
      left_of_run = part-of left.now run.now part;
      run_ordered = run-ascends p.later.now first run.now later.now parts at.later.ordered;
      run_words = run-all p.later.now first run.now later.now parts (λ c. c.word < 2 ^ 26) at.later.words;
      one_run = λ c d h i. sym (run_total.congr first c d (in-first-run p.later.now first run.now later.now parts c h)) ∙ in-first-run p.later.now first run.now later.now parts d i;
      bits = bits_are;
      later = record {
        ordered = later-ascends p.later.now first run.now later.now parts at.later.ordered;
        words = later-all p.later.now first run.now later.now parts (λ c. c.word < 2 ^ 26) at.later.words;
      };
      apart = below-later p.later.now first run.now later.now parts at.later.ordered;
    }

    pub run-same : at_bit 0 left.now ≡ at_bit 0 run.now → at_place at-run ≡ at_place p
    run-same same =
        ap (λ l. l ++ (from_bit 1 run.now ++ accesses_of later.now)) same
        ∙ sym (append_assoc (at_bit 0 run.now) (from_bit 1 run.now) (accesses_of later.now))
        ∙ ap (λ l. l ++ accesses_of later.now) (sym (from_bit-first run.now ∙ from_bit-more 0 run.now (omega arith)))
        ∙ sym (run-behind past ∙ accesses-parts p.later.now first run.now later.now parts)

    pub run-smaller : size_of at-run < size_of p
    run-smaller = let shorter = group-shorter in_run p.later.now first run.now later.now parts in let bit = at.bit in omega (arith, shorter, past, bit)

-- before the first row
pub start-place : (p : RowPlace) → p.bit ≡ 63 → p.run.now ≡ [] → p.left.now ≡ [] → AreChunks p.later.now → IsPlace p
unfolding IsStrictlySortedBy
start-place p bit run left are = record {
  bit = omega (arith, bit);
  left_ordered = subst (IsStrictlySortedBy chunk_cmp) (sym left) tt;
  left_of_run = λ c h. absurd (contains-none c (subst (λ l. Contains l c) left h));
  run_ordered = subst (IsStrictlySortedBy chunk_cmp) (sym run) tt;
  run_words = subst (All (λ c. c.word < 2 ^ 26)) (sym run) (All-nil (λ c. c.word < 2 ^ 26));
  one_run = λ c d h i. absurd (contains-none c (subst (λ l. Contains l c) run h));
  bits = λ b none. ap (at_bit b) run;
  later = are;
  apart = λ c d h i. absurd (contains-none c (subst (λ l. Contains l c) run h));
}

pub start-is : (p : RowPlace) → p.bit ≡ 63 → p.run.now ≡ [] → p.left.now ≡ [] → at_place p ≡ accesses_of p.later.now
start-is p bit run left =
    ap (λ l. at_bit p.bit l ++ (from_bit (p.bit + 1) p.run.now ++ accesses_of p.later.now)) left
    ∙ ap (λ l. l ++ accesses_of p.later.now) (from_bit-none (p.bit + 1) p.run.now (omega (arith, bit)))
