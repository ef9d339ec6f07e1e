-- Rows by numbers, as they are built.
use Rattle.cil_rules.proofs.Common.{◌≡◌, ℕ, ◌+◌, ◌-◌, true, false, cond, get_or, sym, append_assoc, append-nil, ◌<◌, ◌≤◌, List, [], ◌∷◌, ◌++◌, length, map, take, drop, refl, ap, ◌∙◌, arith, All, AllByRecursion, filter, length-append, length-drop, map_push, drop-append-le, take-append-le, drop_at, take_all, All-push, All-weaker, All-append, All-map, recursion_from_All, filter_more, AccessNumbers, IsWithin, name_at, row_at, numbered_row, row_by, IsNumberedRow, AreNumberedRows}
use Rattle.std.specs.Prelude.{slice_range}
use Rattle.cil_text.specs.declared.statement.RuleKind.TheVariants.{Allow}
use Rattle.cil_accesses.specs.declared.chunk.Chunk.{Chunk}
use Rattle.cil_accesses.specs.View.{access_at, at_bit, has_bit}
use Rattle.cil_rules.specs.declared.rows.RowNumbers.{RowNumbers}

-- a range of a list is that range of a longer one
range-append : (xs ys : List ℕ) (start end : ℕ) → start ≤ end → end ≤ length xs → slice_range (xs ++ ys) start end ≡ slice_range xs start end
range-append xs ys start end ordered within =
    ap (take (end - start)) (drop-append-le start xs ys (omega arith))
    ∙ take-append-le (end - start) (drop start xs) ys (let rest = length-drop start xs in omega (arith, rest))

-- the range of what was appended
range-appended : (xs ys : List ℕ) → slice_range (xs ++ ys) (length xs) (length (xs ++ ys)) ≡ ys
range-appended xs ys =
    ap (take (length (xs ++ ys) - length xs)) (drop_at xs ys (length xs) refl)
    ∙ take_all (length (xs ++ ys) - length xs) ys (let both = length-append xs ys in omega (arith, both))

row_by-append : (names : List (List ℕ)) (ps qs : List ℕ) (rows : List RowNumbers) → AllByRecursion (IsNumberedRow (length names) (length ps)) rows → map (row_by names (ps ++ qs)) rows ≡ map (row_by names ps) rows
row_by-append names ps qs [] each = refl
row_by-append names ps qs (r ∷ rows) each =
    let range = range-append ps qs r.start r.end each.0.start each.0.end in
    λ i. record {
      kind = (row_by names ps r).kind;
      source = name_at names r.source;
      target = name_at names r.target;
      the_class = name_at names r.class;
      permissions = map (name_at names) (range i);
    } ∷ row_by-append names ps qs rows each.1 i

map-map : {X Y Z : Type 0} (f : Y → Z) (g : X → Y) (xs : List X) → map f (map g xs) ≡ map (λ x. f (g x)) xs
map-map f g [] = refl
map-map f g (x ∷ xs) = ap (λ l. f (g x) ∷ l) (map-map f g xs)

-- one more row
module _ (names : List (List ℕ)) (ps : List ℕ) (rows : List RowNumbers) (first : AccessNumbers) (row : List AccessNumbers) (are : AreNumberedRows names ps rows) where
  pub row_by-push : map (row_by names (ps ++ map (λ a. a.permission) row)) (rows ++ numbered_row first (length ps) (length (ps ++ map (λ a. a.permission) row)) ∷ []) ≡ map (row_by names ps) rows ++ row_at names first row ∷ []
  row_by-push =
      let qs : List ℕ = map (λ a. a.permission) row in
      let new = numbered_row first (length ps) (length (ps ++ qs)) in
      let permissions : map (name_at names) (slice_range (ps ++ qs) (length ps) (length (ps ++ qs))) ≡ map (λ a. name_at names a.permission) row =
      ap (map (name_at names)) (range-appended ps qs) ∙ map-map (name_at names) (λ a. a.permission) row in
      map_push (row_by names (ps ++ qs)) rows new
      ∙ (λ i. row_by-append names ps qs rows (recursion_from_All (IsNumberedRow (length names) (length ps)) rows are.each) i
      ++ record { kind = (row_at names first row).kind; source = name_at names first.source; target = name_at names first.target; the_class = name_at names first.class; permissions = permissions i } ∷ [])

  pub numbered-push : IsWithin (length names) first → All (IsWithin (length names)) row
      → AreNumberedRows names (ps ++ map (λ a. a.permission) row) (rows ++ numbered_row first (length ps) (length (ps ++ map (λ a. a.permission) row)) ∷ [])
  numbered-push first_within row_within =
      let qs : List ℕ = map (λ a. a.permission) row in
      let long = length-append ps qs in
      record {
        each =
            All-push (IsNumberedRow (length names) (length (ps ++ qs))) rows (numbered_row first (length ps) (length (ps ++ qs)))
            (All-weaker (IsNumberedRow (length names) (length ps)) (IsNumberedRow (length names) (length (ps ++ qs)))
            (λ r h. record { source = h.source; target = h.target; the_class = h.the_class; start = h.start; end = omega (arith, long, h.end) }) rows are.each)
            (record { source = first_within.source; target = first_within.target; the_class = first_within.the_class; start = omega (arith, long); end = omega arith });
        within =
            All-append (λ n. n < length names) ps qs are.within
            (All-map (λ n. n < length names) (λ a. a.permission) row (All-weaker (IsWithin (length names)) (λ a. a.permission < length names) (λ a h. h.permission) row row_within));
      }

-- the numbers that a place past the end of a list is read as
abbrev pub no_row : RowNumbers
no_row = record { kind = Allow; source = 0; target = 0; class = 0; start = 0; end = 0 }

-- the permissions of the chunks that have a bit
abbrev pub permissions_at : ℕ → List Chunk → List ℕ
permissions_at bit chunks = map (λ a. a.permission) (at_bit bit chunks)

-- with those of one chunk more
module _ (bit : ℕ) (chunks : List Chunk) (i : ℕ) (d : Chunk) (within : i < length chunks) (old now : List ℕ) (is : now ≡ old ++ permissions_at bit (take i chunks)) where
  pub permissions-more : has_bit bit (get_or chunks i d) ≡ true → now ++ (get_or chunks i d).permission ∷ [] ≡ old ++ permissions_at bit (take (i + 1) chunks)
  permissions-more set =
      let c : Chunk = get_or chunks i d in
      let some : List Chunk = filter (has_bit bit) (take i chunks) in
      let kept : filter (has_bit bit) (take (i + 1) chunks) ≡ some ++ c ∷ [] = filter_more (has_bit bit) chunks i d within ∙ ap (λ b. some ++ cond b (c ∷ []) []) set in
      ap (λ l. l ++ c.permission ∷ []) is
      ∙ append_assoc old (permissions_at bit (take i chunks)) (c.permission ∷ [])
      ∙ ap (λ l. old ++ l)
      (sym
      (ap (λ l. map (λ a. a.permission) (map (access_at bit) l)) kept
      ∙ ap (map (λ a. a.permission)) (map_push (access_at bit) some c)
      ∙ map_push (λ a. a.permission) (map (access_at bit) some) (access_at bit c)))

  pub permissions-same : has_bit bit (get_or chunks i d) ≡ false → now ≡ old ++ permissions_at bit (take (i + 1) chunks)
  permissions-same unset =
      let c : Chunk = get_or chunks i d in
      let some : List Chunk = filter (has_bit bit) (take i chunks) in
      let kept : filter (has_bit bit) (take (i + 1) chunks) ≡ some = filter_more (has_bit bit) chunks i d within ∙ ap (λ b. some ++ cond b (c ∷ []) []) unset ∙ append-nil some in
      is ∙ ap (λ l. old ++ map (λ a. a.permission) (map (access_at bit) l)) (sym kept)
