-- Which accesses the chunks of a list have.
use Rattle.cil_accesses.proofs.Common.{◌≡◌, ◌⊎◌, inl, inr, ℕ, suc, zero, ◌<◌, ◌≤◌, ◌+◌, ◌*◌, ◌/◌, ◌%◌, true, List, filter, flat_map, sym, ap, ◌∙◌, subst, arith, Contains, eq-eqb, bit_at, cases_eq, Contains-append_left, Contains-append_right, Contains-append_cases, contains-map, contains-mapped, contains-filtered, AccessNumbers, Chunk, IsAccessOf, IsGiven, in_run, runs_of, has_bit, access_at, at_bit, at_bits, run_accesses, accesses_of}
use Rattle.std.proofs.Common.{eqb-true}
use Rattle.cil_specs.proofs.MeansLemmas.{contains-flat, flat-contains}
use Rattle.cil_accesses.proofs.GroupLemmas.{joined-groups_of}
use Rattle.cil_accesses.proofs.Lists.{contains-none, contains-filter, filter-passes}

-- an access at a bit is one of its chunk
pub access-of : (c : Chunk) (b : ℕ) (a : AccessNumbers) → b < 64 → has_bit b c ≡ true → access_at b c ≡ a → IsAccessOf c a
access-of c b a within set is = record {
  kind = ap (λ (x : AccessNumbers). x.kind) (sym is);
  source = ap (λ (x : AccessNumbers). x.source) (sym is);
  word = ap (λ (x : AccessNumbers). x.target / 64) (sym is) ∙ omega arith;
  the_class = ap (λ (x : AccessNumbers). x.class) (sym is);
  permission = ap (λ (x : AccessNumbers). x.permission) (sym is);
  bit = ap (λ (x : AccessNumbers). bit_at c.bits (x.target % 64)) (sym is) ∙ ap (bit_at c.bits) place ∙ eqb-true (bit_at c.bits b) 1 set;
}
  where
    place : (64 * c.word + b) % 64 ≡ b
    place = omega arith

pub of-access : (c : Chunk) (a : AccessNumbers) → IsAccessOf c a → (has_bit (a.target % 64) c ≡ true) × (access_at (a.target % 64) c ≡ a)
of-access c a is = (
  eq-eqb (bit_at c.bits (a.target % 64)) 1 is.bit,
  let word = is.word in
      let target : 64 * c.word + a.target % 64 ≡ a.target = omega (arith, word) in
      λ i. record { kind = sym is.kind i; source = sym is.source i; target = target i; class = sym is.the_class i; permission = sym is.permission i },
)

pub in-at_bit : (b : ℕ) (run : List Chunk) (a : AccessNumbers) → Contains (at_bit b run) a → (c : Chunk) × Contains run c × (has_bit b c ≡ true) × (access_at b c ≡ a)
in-at_bit b run a h =
    let (c, among, is) = contains-mapped (access_at b) (filter (has_bit b) run) a h in
    (c, contains-filtered (has_bit b) run c among, filter-passes (has_bit b) run c among, is)

pub at_bit-has : (b : ℕ) (run : List Chunk) (c : Chunk) → Contains run c → has_bit b c ≡ true → Contains (at_bit b run) (access_at b c)
at_bit-has b run c h set = contains-map (access_at b) (filter (has_bit b) run) c (contains-filter (has_bit b) run c h set)

-- where in a run an access stands
pub record IsAt (n b : ℕ) (run : List Chunk) (a : AccessNumbers) : Type 0 where
  pub place : ℕ
  pub from : b ≤ place
  pub to : place < b + n
  pub here : Contains (at_bit place run) a

pub in-at_bits : (n b : ℕ) (run : List Chunk) (a : AccessNumbers) → Contains (at_bits n b run) a → IsAt n b run a
in-at_bits zero b run a h = absurd (contains-none a h)
in-at_bits (suc n) b run a h = by (in-at_bits n (b + 1) run a) (Contains-append_cases (at_bit b run) (at_bits n (b + 1) run) a h)
  where
    by : (Contains (at_bits n (b + 1) run) a → IsAt n (b + 1) run a) → Contains (at_bit b run) a ⊎ Contains (at_bits n (b + 1) run) a → IsAt (suc n) b run a
    by rest (inl first) = record { place = b; from = omega arith; to = omega arith; here = first }
    by rest (inr later) =
        let at = rest later in
        let low = at.from in
        let high = at.to in
        record { place = at.place; from = omega (arith, low); to = omega (arith, high); here = at.here }

pub at_bits-has : (n b k : ℕ) (run : List Chunk) (a : AccessNumbers) → b ≤ k → k < b + n → Contains (at_bit k run) a → Contains (at_bits n b run) a
at_bits-has zero b k run a low high h = absurd (omega arith)
at_bits-has (suc n) b k run a low high h =
    elim (cases_eq b k) [
      | inl same ↦ Contains-append_left (at_bit b run) (at_bits n (b + 1) run) a (subst (λ j. Contains (at_bit j run) a) (sym same) h)
      | inr other ↦ Contains-append_right (at_bit b run) (at_bits n (b + 1) run) a (at_bits-has n (b + 1) k run a (omega (arith, other)) (omega arith) h)
    ]

-- the accesses of a run are those of its chunks
pub record IsInRun (run : List Chunk) (a : AccessNumbers) : Type 0 where
  pub chunk : Chunk
  pub among : Contains run chunk
  pub of : IsAccessOf chunk a

pub in-run_accesses : (run : List Chunk) (a : AccessNumbers) → Contains (run_accesses run) a → IsInRun run a
unfolding run_accesses
in-run_accesses run a h =
    let at = in-at_bits 64 0 run a h in
    let (c, among, set, is) = in-at_bit at.place run a at.here in
    let high = at.to in
    record { chunk = c; among = among; of = access-of c at.place a (omega (arith, high)) set is }

pub run_accesses-has : (run : List Chunk) (a : AccessNumbers) (c : Chunk) → Contains run c → IsAccessOf c a → Contains (run_accesses run) a
unfolding run_accesses
run_accesses-has run a c among of =
    let parts = of-access c a of in
    at_bits-has 64 0 (a.target % 64) run a (omega arith) (omega arith) (subst (Contains (at_bit (a.target % 64) run)) parts.1 (at_bit-has (a.target % 64) run c among parts.0))

-- the runs of chunks have those chunks
pub joined-runs_of : (chunks : List Chunk) → flat_map (λ run. run) (runs_of chunks) ≡ chunks
joined-runs_of chunks = joined-groups_of in_run chunks

-- the accesses of chunks are those of one of them
pub in-accesses_of : (chunks : List Chunk) (a : AccessNumbers) → Contains (accesses_of chunks) a → IsGiven chunks a
unfolding accesses_of
in-accesses_of chunks a h =
    let (run, among, there) = flat-contains run_accesses (runs_of chunks) a h in
    let at = in-run_accesses run a there in
    let (k, within, is) = subst (λ l. Contains l at.chunk) (joined-runs_of chunks) (contains-flat (λ run. run) (runs_of chunks) run at.chunk among at.among) in
    (k, at.chunk, within, is, at.of)

pub accesses_of-has : (chunks : List Chunk) (a : AccessNumbers) → IsGiven chunks a → Contains (accesses_of chunks) a
unfolding accesses_of
accesses_of-has chunks a (k, c, within, is, of) =
    let (run, among, there) = flat-contains (λ run. run) (runs_of chunks) c (subst (λ l. Contains l c) (sym (joined-runs_of chunks)) (k, within, is)) in
    contains-flat run_accesses (runs_of chunks) run a among (run_accesses-has run a c there of)
