-- The first row of numbered accesses, and those after it.
use Rattle.cil_rules.proofs.Common.{◌≡◌, ℕ, ◌+◌, ◌≤◌, List, [], ◌∷◌, ◌++◌, length, map, take, drop, Bool, true, false, cond, refl, sym, ap, ◌∙◌, subst, one-add, arith, IsTrue, All, AllByRecursion, filter, prefix_len, eq_by_cmp, is_eq, nat_cmp, ordering_then, Ordering, nat_cmp_total, on_total, then_total, tied_itself, take_at, drop_at, length-append, All-from_recursion, recursion_from_All, kind_index, names_rise, Row, row_cmp, is_listed, equal-is, rule_kind_of, AccessNumbers, IsWithin, name_at, atom_at, row_with, put_first, groups_of, rows_of, row_at}
use Rattle.std.specs.Cmp.{IsTotalOrder}
use Rattle.cil_specs.specs.Rule as spec
use Rattle.cil_accesses.specs.Rows.{row_cmp as row_numbers_cmp, in_row}
use Rattle.cil_accesses.specs.Groups.{IsFirstGroup}
use Rattle.cil_rules.proofs.AtomLemmas.{name_cmp-name_at}
use Rattle.cil_rules.proofs.RowLemmas.{all-append_left, all-append_right}

row_numbers_total : IsTotalOrder row_numbers_cmp
row_numbers_total =
    then_total (on_total (λ a. kind_index (rule_kind_of a.kind)) nat_cmp_total)
    (then_total (on_total (λ a. a.source) nat_cmp_total) (then_total (on_total (λ a. a.target) nat_cmp_total) (on_total (λ a. a.class) nat_cmp_total)))

pub in_own_row : (x : AccessNumbers) → in_row x x ≡ true
in_own_row x = ap is_eq (tied_itself row_numbers_total x)

-- accesses of one row have the same accesses in their row
same-row : (x y : AccessNumbers) → in_row x y ≡ true → in_row x ≡ in_row y
same-row x y e = λ i z. is_eq (row_numbers_total.congr x y z (equal-is (row_numbers_cmp x y) e) i)

module _ (names : List (List ℕ)) (rise : IsTrue (names_rise names)) where
  -- rows by names have the order of those by numbers
  row_cmp-row_with : (a b : AccessNumbers) (ps qs : List (List ℕ)) → IsWithin (length names) a → IsWithin (length names) b → row_cmp (row_with (atom_at names a) ps) (row_with (atom_at names b) qs) ≡ row_numbers_cmp a b
  row_cmp-row_with a b ps qs a_within b_within =
      let source = name_cmp-name_at names a.source b.source rise a_within.source b_within.source in
      let target = name_cmp-name_at names a.target b.target rise a_within.target b_within.target in
      let the_class = name_cmp-name_at names a.class b.class rise a_within.the_class b_within.the_class in
      let kinds : Ordering = nat_cmp (kind_index (rule_kind_of a.kind)) (kind_index (rule_kind_of b.kind)) in
      λ i. ordering_then kinds (ordering_then (source i) (ordering_then (target i) (the_class i)))

  -- the first row of accesses put before others is that of the first access
  first-put_first : (a : spec.Atom) (rows : List Row) → (ps : List (List ℕ)) × (rest : List Row) × (put_first a rows ≡ row_with a ps ∷ rest)
  first-put_first a [] = (a.permission ∷ [], [], refl)
  first-put_first a (r ∷ rows) = by (eq_by_cmp row_cmp (row_with a []) r)
    where
      by : (b : Bool) → (ps : List (List ℕ)) × (rest : List Row) × (cond b (row_with a (a.permission ∷ r.permissions) ∷ rows) (row_with a (a.permission ∷ []) ∷ r ∷ rows) ≡ row_with a ps ∷ rest)
      by true = (a.permission ∷ r.permissions, rows, refl)
      by false = (a.permission ∷ [], r ∷ rows, refl)

  -- an access goes onto the first row where that is its row, and else before it
  put_first-row : (x y : AccessNumbers) (ps : List (List ℕ)) (rows : List Row) → IsWithin (length names) x → IsWithin (length names) y
      → put_first (atom_at names x) (row_with (atom_at names y) ps ∷ rows)
      ≡ cond (in_row x y) (row_with (atom_at names x) (name_at names x.permission ∷ ps) ∷ rows) (row_with (atom_at names x) (name_at names x.permission ∷ []) ∷ row_with (atom_at names y) ps ∷ rows)
  put_first-row x y ps rows x_within y_within =
      ap (λ o. cond (is_eq o) (row_with (atom_at names x) (name_at names x.permission ∷ ps) ∷ rows) (row_with (atom_at names x) (name_at names x.permission ∷ []) ∷ row_with (atom_at names y) ps ∷ rows))
      (row_cmp-row_with x y [] ps x_within y_within)

  groups-behind : (x : AccessNumbers) (ys : List AccessNumbers) → IsWithin (length names) x → AllByRecursion (IsWithin (length names)) ys
      → groups_of (map (atom_at names) (x ∷ ys)) ≡ row_at names x (x ∷ take (prefix_len (in_row x) ys) ys) ∷ groups_of (map (atom_at names) (drop (prefix_len (in_row x) ys) ys))
  groups-behind x [] x_within within = refl
  groups-behind x (y ∷ ys) x_within within = by (in_row x y) refl (groups-behind y ys within.0 within.1)
    where
      by : (b : Bool) → in_row x y ≡ b
          → groups_of (map (atom_at names) (y ∷ ys)) ≡ row_at names y (y ∷ take (prefix_len (in_row y) ys) ys) ∷ groups_of (map (atom_at names) (drop (prefix_len (in_row y) ys) ys))
          → groups_of (map (atom_at names) (x ∷ y ∷ ys))
          ≡ row_at names x (x ∷ take (cond b (1 + prefix_len (in_row x) ys) 0) (y ∷ ys)) ∷ groups_of (map (atom_at names) (drop (cond b (1 + prefix_len (in_row x) ys) 0) (y ∷ ys)))
      by true same rest =
          ap (put_first (atom_at names x)) rest
          ∙ put_first-row x y (map (λ a. name_at names a.permission) (y ∷ take (prefix_len (in_row y) ys) ys)) (groups_of (map (atom_at names) (drop (prefix_len (in_row y) ys) ys))) x_within within.0
          ∙ ap (λ b. cond b (row_at names x (x ∷ y ∷ take (prefix_len (in_row y) ys) ys) ∷ groups_of (map (atom_at names) (drop (prefix_len (in_row y) ys) ys)))
          (row_at names x (x ∷ []) ∷ row_at names y (y ∷ take (prefix_len (in_row y) ys) ys) ∷ groups_of (map (atom_at names) (drop (prefix_len (in_row y) ys) ys)))) same
          ∙ ap (λ (test : AccessNumbers → Bool). row_at names x (x ∷ y ∷ take (prefix_len test ys) ys) ∷ groups_of (map (atom_at names) (drop (prefix_len test ys) ys))) (sym (same-row x y same))
          ∙ ap (λ n. row_at names x (x ∷ take n (y ∷ ys)) ∷ groups_of (map (atom_at names) (drop n (y ∷ ys)))) (sym (one-add (prefix_len (in_row x) ys)))
      by false other rest =
          let (ps, later, is) = first-put_first (atom_at names y) (groups_of (map (atom_at names) ys)) in
          ap (put_first (atom_at names x)) is
          ∙ put_first-row x y ps later x_within within.0
          ∙ ap (λ b. cond b (row_with (atom_at names x) (name_at names x.permission ∷ ps) ∷ later) (row_with (atom_at names x) (name_at names x.permission ∷ []) ∷ row_with (atom_at names y) ps ∷ later)) other
          ∙ ap (λ l. row_at names x (x ∷ []) ∷ l) (sym is)

  -- the first row of accesses has those from the front that stand in it
  groups-front : (x : AccessNumbers) (xs : List AccessNumbers) → AllByRecursion (IsWithin (length names)) (x ∷ xs)
      → groups_of (map (atom_at names) (x ∷ xs))
      ≡ row_at names x (take (prefix_len (in_row x) (x ∷ xs)) (x ∷ xs)) ∷ groups_of (map (atom_at names) (drop (prefix_len (in_row x) (x ∷ xs)) (x ∷ xs)))
  groups-front x xs within =
      let n : ℕ = prefix_len (in_row x) xs in
      groups-behind x xs within.0 within.1
      ∙ ap (λ k. row_at names x (take k (x ∷ xs)) ∷ groups_of (map (atom_at names) (drop k (x ∷ xs)))) (sym (one-add n))
      ∙ ap (λ b. row_at names x (take (cond b (1 + n) 0) (x ∷ xs)) ∷ groups_of (map (atom_at names) (drop (cond b (1 + n) 0) (x ∷ xs)))) (sym (in_own_row x))

  pub rows-front : (x : AccessNumbers) (xs : List AccessNumbers) → AllByRecursion (IsWithin (length names)) (x ∷ xs)
      → rows_of (map (atom_at names) (x ∷ xs))
      ≡ cond (is_listed (rule_kind_of x.kind)) (row_at names x (take (prefix_len (in_row x) (x ∷ xs)) (x ∷ xs)) ∷ rows_of (map (atom_at names) (drop (prefix_len (in_row x) (x ∷ xs)) (x ∷ xs))))
      (rows_of (map (atom_at names) (drop (prefix_len (in_row x) (x ∷ xs)) (x ∷ xs))))
  rows-front x xs within = ap (filter (λ r. is_listed r.kind)) (groups-front x xs within)

-- how a first row parts the accesses
module _ (atoms : List AccessNumbers) (first : AccessNumbers) (row later : List AccessNumbers) (parts : IsFirstGroup in_row atoms first row later) where
  pub parts-length : 1 + length later ≤ length atoms
  parts-length =
      let whole = ap length parts.whole ∙ length-append row later in
      let some = ap length parts.some.1 in
      omega (arith, whole, some)

  pub row-all : (P : AccessNumbers → Type 0) → All P atoms → All P row
  row-all P all = All-from_recursion P row (all-append_left P row later (recursion_from_All P (row ++ later) (subst (All P) parts.whole all)))

  pub later-all : (P : AccessNumbers → Type 0) → All P atoms → All P later
  later-all P all = All-from_recursion P later (all-append_right P row later (recursion_from_All P (row ++ later) (subst (All P) parts.whole all)))

  pub first-all : (P : AccessNumbers → Type 0) → All P atoms → P first
  first-all P all = (recursion_from_All P (first ∷ parts.some.0) (subst (All P) parts.some.1 (row-all P all))).0

  -- the rows are the first row, where it is listed, and those of the later accesses
  pub rows-parts : (names : List (List ℕ)) → IsTrue (names_rise names) → All (IsWithin (length names)) atoms
      → rows_of (map (atom_at names) atoms) ≡ cond (is_listed (rule_kind_of first.kind)) (row_at names first row ∷ rows_of (map (atom_at names) later)) (rows_of (map (atom_at names) later))
  rows-parts names rise within =
      let tail : List AccessNumbers = parts.some.0 ++ later in
      let is : atoms ≡ first ∷ tail = parts.whole ∙ ap (λ l. l ++ later) parts.some.1 in
      let n : ℕ = prefix_len (in_row first) (first ∷ tail) in
      let long : length row ≡ n = parts.all ∙ ap (prefix_len (in_row first)) is in
      let joined : first ∷ tail ≡ row ++ later = sym is ∙ parts.whole in
      let front : take n (first ∷ tail) ≡ row = ap (take n) joined ∙ take_at row later n long in
      let back : drop n (first ∷ tail) ≡ later = ap (drop n) joined ∙ drop_at row later n long in
      ap (λ l. rows_of (map (atom_at names) l)) is
      ∙ rows-front names rise first tail (recursion_from_All (IsWithin (length names)) (first ∷ tail) (subst (All (IsWithin (length names))) is within))
      ∙ (λ i. cond (is_listed (rule_kind_of first.kind)) (row_at names first (front i) ∷ rows_of (map (atom_at names) (back i))) (rows_of (map (atom_at names) (back i))))
