-- The first row at a place, and the places behind it.
use Rattle.cil_accesses.proofs.Common.{◌≡◌, ◌⊎◌, inl, inr, ℕ, ◌+◌, ◌-◌, ◌*◌, ◌<◌, ◌≤◌, Bool, true, false, not, cond, List, [], ◌∷◌, ◌++◌, length, take, drop, filter, map, slice_get, Some, None, refl, sym, ap, ◌∙◌, subst, arith, one-add, append_assoc, append-nil, Contains, prefix_len, IsStrictlySortedBy, IsTotalOrder, nat_cmp, ordering_then, is_eq, Ordering, Less, Equal, false_from_ne_true, nat_cmp_total, on_total, then_total, take-append-drop, map-append, filter-append, Contains-append_left, Contains-append_right, Contains-append_cases, kind_index, all-contained, contains-cases, contains-first, then_equal, equal-is, rule_kind_of, AccessNumbers, Chunk, RowPlace, run_cmp, chunk_cmp, IsGiven, IsFirstGroup, row_cmp, in_row, rows_of, class_cmp, has_class, at_place, IsNextClass, IsPlace, has_bit, access_at, at_bit, from_bit, accesses_of}
use Rattle.std.proofs.Common.{true≢false}
use Rattle.std.proofs.lemmas.Bool.Decides.{nat_tests}
use Rattle.std.proofs.lemmas.Map.Lookups.{exact_unsigned}
use Rattle.cil_accesses.proofs.GroupLemmas.{alike-own, groups-parts, prefix-ends, prefix-passes, prefix-is}
use Rattle.cil_accesses.proofs.Lists.{contains-none, sorted-right, sorted-first}
use Rattle.cil_accesses.proofs.Members.{IsAt, in-at_bit, in-at_bits, in-accesses_of}
use Rattle.cil_accesses.proofs.Order.{run_total, run_exact, InOneRun, same-rule_kind}
use Rattle.cil_accesses.proofs.RunLemmas.{then_less}

-- ---- the first that passes

pub skipped-none : (p : Chunk → Bool) (xs : List Chunk) → filter p (take (prefix_len (λ c. not (p c)) xs) xs) ≡ []
skipped-none p [] = refl
skipped-none p (x ∷ xs) = by (p x) refl (skipped-none p xs)
  where
    by : (b : Bool) → p x ≡ b → filter p (take (prefix_len (λ c. not (p c)) xs) xs) ≡ [] → filter p (take (cond (not b) (1 + prefix_len (λ c. not (p c)) xs) 0) (x ∷ xs)) ≡ []
    by true is rest = refl
    by false is rest =
        let n : ℕ = prefix_len (λ c. not (p c)) xs in
        ap (λ m. filter p (take m (x ∷ xs))) (one-add n) ∙ ap (λ b. cond b (x ∷ filter p (take n xs)) (filter p (take n xs))) is ∙ rest

pub found-passes : (p : Chunk → Bool) (xs : List Chunk) (first : Chunk) → Some first ≡ slice_get (drop (prefix_len (λ c. not (p c)) xs) xs) 0 → p first ≡ true
found-passes p [] first is = absurd (let none : Some first ≡ None = is in cc)
found-passes p (x ∷ xs) first is = by (p x) refl (found-passes p xs first) is
  where
    by : (b : Bool) → p x ≡ b → (Some first ≡ slice_get (drop (prefix_len (λ c. not (p c)) xs) xs) 0 → p first ≡ true)
        → Some first ≡ slice_get (drop (cond (not b) (1 + prefix_len (λ c. not (p c)) xs) 0) (x ∷ xs)) 0 → p first ≡ true
    by true passes rest here = let same : first ≡ x = cc in ap p same ∙ passes
    by false fails rest later = rest (later ∙ ap (λ m. slice_get (drop m (x ∷ xs)) 0) (one-add (prefix_len (λ c. not (p c)) xs)))

pub none-passes : (p : Chunk → Bool) (xs : List Chunk) → drop (prefix_len (λ c. not (p c)) xs) xs ≡ [] → filter p xs ≡ []
none-passes p xs past =
    let n : ℕ = prefix_len (λ c. not (p c)) xs in
    ap (filter p) (sym (take-append-drop n xs) ∙ ap (λ l. take n xs ++ l) past ∙ append-nil (take n xs)) ∙ skipped-none p xs

pub empty-first : (xs : List Chunk) → slice_get xs 0 ≡ None → xs ≡ []
empty-first [] is = refl
empty-first (x ∷ xs) is = absurd (let some : Some x ≡ None = is in cc)

-- ---- the orders

pub class_total : IsTotalOrder class_cmp
class_total = on_total (λ c. c.class) nat_cmp_total

row_total : IsTotalOrder row_cmp
row_total =
    then_total (on_total (λ a. kind_index (rule_kind_of a.kind)) nat_cmp_total)
    (then_total (on_total (λ a. a.source) nat_cmp_total) (then_total (on_total (λ a. a.target) nat_cmp_total) (on_total (λ a. a.class) nat_cmp_total)))

-- accesses of one row have one kind, source, target and class
record InOneRow (a b : AccessNumbers) : Type 0 where
  kind : a.kind ≡ b.kind
  source : a.source ≡ b.source
  target : a.target ≡ b.target
  the_class : a.class ≡ b.class

row_exact : (a b : AccessNumbers) → in_row a b ≡ true → InOneRow a b
row_exact a b e =
    let kinds = then_equal _ _ (equal-is (row_cmp a b) e) in
    let sources = then_equal _ _ kinds.1 in
    let targets = then_equal _ _ sources.1 in
    record { kind = same-rule_kind a.kind b.kind (exact_unsigned _ _ kinds.0); source = exact_unsigned _ _ sources.0; target = exact_unsigned _ _ targets.0; the_class = exact_unsigned _ _ targets.1 }

row_from : (a b : AccessNumbers) → InOneRow a b → in_row a b ≡ true
row_from a b same =
    (λ i. is_eq (ordering_then (nat_cmp (kind_index (rule_kind_of (same.kind i))) (kind_index (rule_kind_of b.kind)))
    (ordering_then (nat_cmp (same.source i) b.source) (ordering_then (nat_cmp (same.target i) b.target) (nat_cmp (same.the_class i) b.class)))))
    ∙ alike-own row_total b

run_from : (c d : Chunk) → c.kind ≡ d.kind → c.source ≡ d.source → c.word ≡ d.word → run_cmp c d ≡ Equal
run_from c d kind source word =
    (λ i. ordering_then (nat_cmp (kind_index (rule_kind_of (kind i))) (kind_index (rule_kind_of d.kind))) (ordering_then (nat_cmp (source i) d.source) (nat_cmp (word i) d.word)))
    ∙ equal-is (run_cmp d d) (alike-own run_total d)

class-le : (m n : ℕ) (o : Ordering) → ordering_then (nat_cmp m n) o ≡ Less → m ≤ n
class-le m n o e =
    elim (then_less (nat_cmp m n) o e) [
      | inl below ↦ less m n below
      | inr tied ↦ tie m n tied.0
    ]
  where
    less : (i j : ℕ) → nat_cmp i j ≡ Less → i ≤ j
    less i j h = grind (arith, nat_tests)

    tie : (i j : ℕ) → nat_cmp i j ≡ Equal → i ≤ j
    tie i j h = grind (arith, nat_tests)

-- in a run, classes do not fall
class-rises : (c d : Chunk) → run_cmp c d ≡ Equal → chunk_cmp c d ≡ Less → c.class ≤ d.class
class-rises c d same below =
    class-le c.class d.class (nat_cmp c.permission d.permission)
    (sym (ap (λ o. ordering_then o (ordering_then (nat_cmp c.class d.class) (nat_cmp c.permission d.permission))) same) ∙ below)

class-apart : (c d : Chunk) → has_class c d ≡ false → c.class ≡ d.class → ⊥
class-apart c d apart same = true≢false (sym (ap (λ n. is_eq (nat_cmp c.class n)) (sym same) ∙ alike-own nat_cmp_total c.class) ∙ apart)

pub at_bit-append : (b : ℕ) (xs ys : List Chunk) → at_bit b (xs ++ ys) ≡ at_bit b xs ++ at_bit b ys
at_bit-append b xs ys = ap (map (access_at b)) (filter-append (has_bit b) xs ys) ∙ map-append (access_at b) (filter (has_bit b) xs) (filter (has_bit b) ys)

in-from_bit : (b : ℕ) (run : List Chunk) (a : AccessNumbers) → Contains (from_bit b run) a → IsAt (64 - b) b run a
unfolding from_bit
in-from_bit b run a h = in-at_bits (64 - b) b run a h

-- ---- behind a row

module _ (p : RowPlace) (at : IsPlace p) (first : Chunk) (row later : List Chunk) (next : IsNextClass p.left.now p.bit first row later) where
  abbrev b : ℕ
  b = p.bit

  abbrev old : List AccessNumbers
  old = at_place p

  abbrev new : List AccessNumbers
  new = at_bit b later ++ (from_bit (b + 1) p.run.now ++ accesses_of p.later.now)

  left-is : p.left.now ≡ next.front ++ (row ++ later)
  left-is = next.whole ∙ ap (λ l. next.front ++ l) next.group.whole

  row-of-run : (c : Chunk) → Contains row c → Contains p.run.now c
  row-of-run c h = at.left_of_run c (subst (λ l. Contains l c) (sym left-is) (Contains-append_right next.front (row ++ later) c (Contains-append_left row later c h)))

  pub later-of-run : (c : Chunk) → Contains later c → Contains p.run.now c
  later-of-run c h = at.left_of_run c (subst (λ l. Contains l c) (sym left-is) (Contains-append_right next.front (row ++ later) c (Contains-append_right row later c h)))

  both-ordered : IsStrictlySortedBy chunk_cmp (row ++ later)
  both-ordered = sorted-right chunk_cmp next.front (row ++ later) (subst (IsStrictlySortedBy chunk_cmp) left-is at.left_ordered)

  pub later-ordered : IsStrictlySortedBy chunk_cmp later
  later-ordered = sorted-right chunk_cmp row later both-ordered

  first-in-row : Contains row first
  first-in-row = subst (λ l. Contains l first) (sym next.group.some.1) (contains-first first next.group.some.0)

  pub first-of-run : Contains p.run.now first
  first-of-run = row-of-run first first-in-row

  long : length row ≡ prefix_len (has_class first) (row ++ later)
  long = next.group.all ∙ ap (prefix_len (has_class first)) next.group.whole

  -- the chunks behind are of later classes
  behind-class : (d : Chunk) → Contains later d → first.class < d.class
  behind-class d h = by later refl h
    where
      by : (l : List Chunk) → later ≡ l → Contains l d → first.class < d.class
      by [] is among = absurd (contains-none d among)
      by (e ∷ ds) is among =
          let ordered : IsStrictlySortedBy chunk_cmp (first ∷ (next.group.some.0 ++ e ∷ ds)) = subst (IsStrictlySortedBy chunk_cmp) (λ i. next.group.some.1 i ++ is i) both-ordered in
          let there : Contains (next.group.some.0 ++ e ∷ ds) e = Contains-append_right next.group.some.0 (e ∷ ds) e (contains-first e ds) in
          let e_in : Contains p.run.now e = later-of-run e (subst (λ l. Contains l e) (sym is) (contains-first e ds)) in
          let d_in : Contains p.run.now d = later-of-run d (subst (λ l. Contains l d) (sym is) among) in
          let up = class-rises first e (at.one_run first e first-of-run e_in) (sorted-first chunk_cmp first (next.group.some.0 ++ e ∷ ds) e ordered there) in
          let apart = class-apart first e (prefix-ends (has_class first) row e ds (long ∙ ap (λ l. prefix_len (has_class first) (row ++ l)) is)) in
          let on : e.class ≤ d.class = elim (contains-cases e ds d among) [
            | inl same ↦ (let k = ap (λ (x : Chunk). x.class) same in omega (arith, k))
            | inr behind ↦ class-rises e d (at.one_run e d e_in d_in) (sorted-first chunk_cmp e ds d (subst (IsStrictlySortedBy chunk_cmp) is later-ordered) behind)
          ] in
          omega (arith, up, apart, on)

  pub row-parts : old ≡ at_bit b row ++ new
  row-parts =
      let left : at_bit b p.left.now ≡ at_bit b row ++ at_bit b later =
      ap (at_bit b) left-is ∙ at_bit-append b next.front (row ++ later) ∙ ap (λ l. l ++ at_bit b (row ++ later)) next.passed ∙ at_bit-append b row later in
      ap (λ l. l ++ (from_bit (b + 1) p.run.now ++ accesses_of p.later.now)) left ∙ append_assoc (at_bit b row) (at_bit b later) (from_bit (b + 1) p.run.now ++ accesses_of p.later.now)

  in-row : (y : AccessNumbers) → Contains (at_bit b row) y → in_row (access_at b first) y ≡ true
  in-row y h =
      let (c, among, set, is) = in-at_bit b row y h in
      let same : InOneRun first c = run_exact first c (at.one_run first c first-of-run (row-of-run c among)) in
      let alike : has_class first c ≡ true = all-contained (λ d. has_class first d ≡ true) row c (prefix-passes (has_class first) row later long) among in
      let the_class : first.class ≡ c.class = exact_unsigned _ _ (equal-is (class_cmp first c) alike) in
      ap (in_row (access_at b first)) (sym is) ∙ row_from (access_at b first) (access_at b c) (record { kind = same.kind; source = same.source; target = ap (λ w. 64 * w + b) same.word; the_class = the_class })

  not-in-row : (y : AccessNumbers) → Contains new y → in_row (access_at b first) y ≡ false
  not-in-row y h = false_from_ne_true (in_row (access_at b first) y) (λ e. by (row_exact (access_at b first) y e) (Contains-append_cases (at_bit b later) (from_bit (b + 1) p.run.now ++ accesses_of p.later.now) y h))
    where
      at-later : InOneRow (access_at b first) y → Contains (at_bit b later) y → ⊥
      at-later same i =
          let (d, among, set, is) = in-at_bit b later y i in
          let above = behind-class d among in
          let the_class = same.the_class ∙ ap (λ (a : AccessNumbers). a.class) (sym is) in
          omega (arith, above, the_class)

      at-target : InOneRow (access_at b first) y → Contains (from_bit (b + 1) p.run.now) y → ⊥
      at-target same i =
          let there = in-from_bit (b + 1) p.run.now y i in
          let (d, among, set, is) = in-at_bit there.place p.run.now y there.here in
          let one : InOneRun first d = run_exact first d (at.one_run first d first-of-run among) in
          let target : 64 * first.word + b ≡ 64 * d.word + there.place = same.target ∙ ap (λ (a : AccessNumbers). a.target) (sym is) in
          let word = one.word in
          let from = there.from in
          omega (arith, target, word, from)

      at-run : InOneRow (access_at b first) y → IsGiven p.later.now y → ⊥
      at-run same (k, d, within, is, of) =
          let target = same.target in
          let word = of.word in
          let bit = at.bit in
          let words : first.word ≡ d.word = omega (arith, target, word, bit) in
          let tied = run_from first d (same.kind ∙ of.kind) (same.source ∙ of.source) words in
          let below = at.apart first d first-of-run (k, within, is) in
          let both : Less ≡ Equal = sym below ∙ tied in cc

      by : InOneRow (access_at b first) y → Contains (at_bit b later) y ⊎ Contains (from_bit (b + 1) p.run.now ++ accesses_of p.later.now) y → ⊥
      by same (inl i) = at-later same i
      by same (inr i) =
          elim (Contains-append_cases (from_bit (b + 1) p.run.now) (accesses_of p.later.now) y i) [
            | inl j ↦ at-target same j
            | inr j ↦ at-run same (in-accesses_of p.later.now y j)
          ]

  pub first-row : (a : AccessNumbers) → a ≡ access_at b first → IsFirstGroup in_row old a (at_bit b row) new
  first-row a a_is = record {
    whole = row-parts;
    some = (at_bit b next.group.some.0, ap (at_bit b) next.group.some.1 ∙ ap (λ t. map (access_at b) (cond t (first ∷ filter (has_bit b) next.group.some.0) (filter (has_bit b) next.group.some.0))) next.set ∙ ap (λ y. y ∷ at_bit b next.group.some.0) (sym a_is));
    all = prefix-is (in_row (access_at b first)) (at_bit b row) new in-row not-in-row ∙ (λ i. prefix_len (in_row (sym a_is i)) (sym row-parts i));
  }

  pub first-rows : (a : AccessNumbers) → a ≡ access_at b first → rows_of old ≡ at_bit b row ∷ rows_of new
  first-rows a a_is = groups-parts row_total old a (at_bit b row) new (first-row a a_is)

-- chunks whose classes differ
pub other-class : (c d : Chunk) → (d.class ≡ c.class → ⊥) → has_class c d ≡ false
other-class c d apart = false_from_ne_true (has_class c d) (λ e. apart (sym (exact_unsigned _ _ (equal-is (class_cmp c d) e))))
