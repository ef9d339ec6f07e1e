-- How many accesses chunks have.
use Rattle.cil_accesses.proofs.Common.{◌≡◌, ℕ, suc, zero, ◌<◌, ◌≤◌, ◌+◌, ◌*◌, ◌/◌, ◌%◌, ◌^◌, Bool, true, false, cond, List, [], ◌∷◌, filter, flat_map, length, get_or, take, drop, sum_by, count_ones, refl, sym, ap, ◌∙◌, arith, pow-suc, bit_at, length-map, length-append, take-append-drop, sum_by-cons, sum_by-append, sum_by-drop_more, ones_cat, bit_at_lowest, bit_at-suc, bit_at-lt, eqb-true, eqb-false, Chunk, set_from, ones_of, runs_of, has_bit, access_at, at_bit, at_bits, run_accesses, accesses_of}
use Rattle.std.specs.Int.Count.{ones-ones}
use Rattle.cil_accesses.proofs.Members.{joined-runs_of}

set_from-half : (n b m : ℕ) → set_from n (suc b) m ≡ set_from n b (m / 2)
set_from-half zero b m = refl
set_from-half (suc n) b m =
    let next : suc b + 1 ≡ suc (b + 1) = omega arith in
    let rest = ap (λ k. set_from n k m) next ∙ set_from-half n (b + 1) m in
    let here = bit_at-suc m b in
    omega (arith, rest, here)

one-digit : (n : ℕ) → n < 2 → count_ones n ≡ n
one-digit zero h = ones-ones 0
one-digit (suc zero) h = ones-ones 1
one-digit (suc (suc n)) h = absurd (omega arith)

set_from-ones : (n m : ℕ) → m < 2 ^ n → set_from n 0 m ≡ count_ones m
set_from-ones zero m fits = let none : m ≡ 0 = omega (arith, fits) in sym (ap count_ones none ∙ ones-ones 0)
set_from-ones (suc n) m fits =
    let twice : 2 ^ suc n ≡ 2 * 2 ^ n = omega (arith, pow-suc 2 n) in
    let rest : set_from n 0 (m / 2) ≡ count_ones (m / 2) = set_from-ones n (m / 2) (omega (arith, fits, twice)) in
    let parts : m / 2 * 2 ^ 1 + m % 2 ≡ m = omega arith in
    let joined : count_ones m ≡ count_ones (m / 2) + count_ones (m % 2) = ap count_ones (sym parts) ∙ ones_cat 1 (m / 2) (m % 2) (omega arith) in
    let half = set_from-half n 0 m in
    let first = bit_at_lowest m in
    let small : count_ones (m % 2) ≡ m % 2 = one-digit (m % 2) (omega arith) in
    omega (arith, rest, joined, half, first, small)

-- the count of a machine word's bits
pub ones-of_bits : (c : Chunk) → c.bits < 2 ^ 64 → ones_of c ≡ count_ones c.bits
unfolding ones_of
ones-of_bits c fits = set_from-ones 64 c.bits fits

-- the accesses of a run to the target of a bit are as many as the chunks that have it
length-filter : (b : ℕ) (run : List Chunk) → length (filter (has_bit b) run) ≡ sum_by (λ c. bit_at c.bits b) run
length-filter b [] = refl
length-filter b (c ∷ run) = by (has_bit b c) refl (length-filter b run)
  where
    by : (t : Bool) → has_bit b c ≡ t → length (filter (has_bit b) run) ≡ sum_by (λ d. bit_at d.bits b) run
        → length (cond t (c ∷ filter (has_bit b) run) (filter (has_bit b) run)) ≡ sum_by (λ d. bit_at d.bits b) (c ∷ run)
    by true set rest = let bit = eqb-true (bit_at c.bits b) 1 set in let all = sum_by-cons (λ (d : Chunk). bit_at d.bits b) c run in omega (arith, rest, bit, all)
    by false unset rest = let bit = eqb-false (bit_at c.bits b) 1 unset in let low = bit_at-lt c.bits b in let all = sum_by-cons (λ (d : Chunk). bit_at d.bits b) c run in omega (arith, rest, bit, low, all)

sum_by-add : (f g : Chunk → ℕ) (run : List Chunk) → sum_by f run + sum_by g run ≡ sum_by (λ c. f c + g c) run
sum_by-add f g [] = refl
sum_by-add f g (c ∷ run) = omega (arith, sum_by-cons f c run, sum_by-cons g c run, sum_by-cons (λ (d : Chunk). f d + g d) c run, sum_by-add f g run)

sum_by-zero : (run : List Chunk) → 0 ≡ sum_by (λ (c : Chunk). 0) run
sum_by-zero [] = refl
sum_by-zero (c ∷ run) = omega (arith, sum_by-cons (λ (d : Chunk). 0) c run, sum_by-zero run)

pub length-at_bit : (b : ℕ) (run : List Chunk) → length (at_bit b run) ≡ sum_by (λ c. bit_at c.bits b) run
length-at_bit b run = length-map (filter (has_bit b) run) (access_at b) ∙ length-filter b run

length-at_bits : (n b : ℕ) (run : List Chunk) → length (at_bits n b run) ≡ sum_by (λ c. set_from n b c.bits) run
length-at_bits zero b run = sum_by-zero run
length-at_bits (suc n) b run =
    length-append (at_bit b run) (at_bits n (b + 1) run)
    ∙ (λ i. length-at_bit b run i + length-at_bits n (b + 1) run i)
    ∙ sum_by-add (λ c. bit_at c.bits b) (λ c. set_from n (b + 1) c.bits) run

pub length-run_accesses : (run : List Chunk) → length (run_accesses run) ≡ sum_by ones_of run
unfolding run_accesses ones_of
length-run_accesses run = length-at_bits 64 0 run

length-runs : (runs : List (List Chunk)) → length (flat_map run_accesses runs) ≡ sum_by ones_of (flat_map (λ run. run) runs)
length-runs [] = refl
length-runs (run ∷ runs) =
    length-append (run_accesses run) (flat_map run_accesses runs)
    ∙ (λ i. length-run_accesses run i + length-runs runs i)
    ∙ sym (sum_by-append ones_of run (flat_map (λ run. run) runs))

pub length-accesses_of : (chunks : List Chunk) → length (accesses_of chunks) ≡ sum_by ones_of chunks
unfolding accesses_of
length-accesses_of chunks = length-runs (runs_of chunks) ∙ ap (sum_by ones_of) (joined-runs_of chunks)

-- a place that is behind the accesses of the chunks so far, and not behind those of the next
pub within-next : (run : List Chunk) (i rest n place : ℕ) (d : Chunk) → i < length run → n ≡ ones_of (get_or run i d) → rest + sum_by ones_of (take i run) ≡ place → (n ≤ rest → ⊥) → place < length (run_accesses run)
within-next run i rest n place d within is so_far below =
    let next = sum_by-drop_more ones_of run i d within in
    let parts = sym (sum_by-append ones_of (take i run) (drop i run)) ∙ ap (sum_by ones_of) (take-append-drop i run) in
    let long = length-run_accesses run in
    omega (arith, next, parts, long, is, so_far, below)
