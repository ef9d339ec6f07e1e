-- Rows that are kept in place, and their new places.
use Rattle.cil_bind.proofs.Common.{◌≡◌, ℕ, zero, suc, ◌+◌, ◌<◌, ◌≤◌, Bool, true, false, cond, if◌then◌else◌, List, [], ◌∷◌, ◌++◌, filter, length, take, get_or, slice_set, Option, Some, None, refl, sym, ap, ◌∙◌, arith, map-append, slice_get-get_or, length-map, Row, StatementKind, kinds_told}
use Rattle.std.proofs.Common.{slice_get}
use Rattle.std.proofs.lemmas.List.{length-set, take_more_set, drop_more}
use Rattle.std.proofs.lemmas.List.Filters.{FiltersInPlace, FiltersInPlace-more_no, FiltersInPlace-more_set}
use Rattle.cil_bind.specs.Moves.{mark, places_told, AreKeptTo}
use Rattle.cil_bind.specs.declared.moves.Moves.{Moves}
use Rattle.cil_bind.proofs.PositionLemmas.{take-last}

take-long : {X : Type 0} (n : ℕ) (xs : List X) → n ≤ length xs → length (take n xs) ≡ n
take-long zero xs low = refl
take-long (suc n) [] low = absurd (omega (arith, low))
take-long (suc n) (x ∷ xs) low = ap suc (take-long n xs (omega (arith, low)))

places-push : (kept : List Bool) (n : ℕ) (rows : List Row) (row : Row) → places_told kept n (rows ++ row ∷ []) ≡ places_told kept n rows ++ (if mark kept row then Some (n + length (filter (mark kept) rows)) else None) ∷ []
places-push kept n [] row = by (mark kept row)
  where
    by : (b : Bool) → (if b then Some n ∷ [] else None ∷ []) ≡ (if b then Some (n + 0) else None) ∷ []
    by true = let same : n ≡ n + 0 = omega arith in ap (λ m. Some m ∷ []) same
    by false = refl
places-push kept n (r ∷ rows) row = by (mark kept r) (places-push kept (n + 1) rows row) (places-push kept n rows row)
  where
    last : ℕ → Option ℕ
    last m = if mark kept row then Some m else None

    by : (b : Bool) → places_told kept (n + 1) (rows ++ row ∷ []) ≡ places_told kept (n + 1) rows ++ last (n + 1 + length (filter (mark kept) rows)) ∷ []
        → places_told kept n (rows ++ row ∷ []) ≡ places_told kept n rows ++ last (n + length (filter (mark kept) rows)) ∷ []
        → (if b then Some n ∷ places_told kept (n + 1) (rows ++ row ∷ []) else None ∷ places_told kept n (rows ++ row ∷ []))
        ≡ (if b then Some n ∷ places_told kept (n + 1) rows else None ∷ places_told kept n rows) ++ last (n + length (cond b (r ∷ filter (mark kept) rows) (filter (mark kept) rows))) ∷ []
    by true more same =
        let e : n + 1 + length (filter (mark kept) rows) ≡ n + suc (length (filter (mark kept) rows)) = omega arith in
        ap (λ l. Some n ∷ l) (more ∙ ap (λ m. places_told kept (n + 1) rows ++ last m ∷ []) e)
    by false more same = ap (λ l. None ∷ l) same

module _ {A : Type 0} (kept : List Bool) (all rows : List Row) (kinds : List StatementKind) (moves new : Moves A) (i : ℕ) (row : Row) (was : AreKeptTo kept all rows kinds moves i)
    (low : i < length rows) (here : row ≡ get_or rows i row) where
  in-place : FiltersInPlace (mark kept) all rows moves.count i
  in-place = record { front = was.front; rest = was.rest; behind = was.behind; within = was.within; long = was.long }

  counted : length (filter (mark kept) (take i all)) ≡ moves.count
  counted = let behind = was.behind in sym (ap length was.front) ∙ take-long moves.count rows (omega (arith, behind, low))

  there : slice_get all i ≡ Some row
  there =
      let long = was.long in
      let low_all : i < length all = omega (arith, low, long) in
      let same : get_or all i row ≡ row = ap (λ l. get_or l 0 row) (sym (drop_more all i row low_all) ∙ sym was.rest ∙ drop_more rows i row low) ∙ sym here in
      slice_get-get_or all i row low_all ∙ ap Some same

  places-next : (place : Option ℕ) → (if mark kept row then Some moves.count else None) ≡ place → new.places.items ≡ moves.places.items ++ place ∷ [] → new.places.items ≡ places_told kept 0 (take (i + 1) all)
  places-next place is pushed =
      let add : length (filter (mark kept) (take i all)) ≡ 0 + length (filter (mark kept) (take i all)) = omega arith in
      pushed ∙ (λ t. was.places_are t ++ sym is t ∷ [])
      ∙ ap (λ m. places_told kept 0 (take i all) ++ (if mark kept row then Some m else None) ∷ []) (sym counted ∙ add)
      ∙ sym (places-push kept 0 (take i all) row) ∙ ap (places_told kept 0) (sym (take-last all i row there))

  -- a row that is left out
  pub left-out : mark kept row ≡ false → new.count ≡ moves.count → new.places.items ≡ moves.places.items ++ None ∷ [] → AreKeptTo kept all rows kinds new (i + 1)
  left-out gone count pushed =
      let next = FiltersInPlace-more_no in-place low gone here in
      let behind = next.behind in
      record {
        front = ap (λ n. take n rows) count ∙ next.front;
        rest = next.rest;
        behind = omega (arith, behind, count);
        within = next.within;
        long = next.long;
        kinds_are = ap (λ n. take n kinds) count ∙ was.kinds_are ∙ ap (λ n. kinds_told (take n rows)) (sym count);
        kinds_long = was.kinds_long;
        places_are = places-next None (ap (λ b. if b then Some moves.count else None) gone) pushed;
      }

  -- a row that stays
  pub stays : mark kept row ≡ true → new.count ≡ moves.count + 1 → new.places.items ≡ moves.places.items ++ Some moves.count ∷ []
      → AreKeptTo kept all (slice_set rows moves.count row) (slice_set kinds moves.count row.kind) new (i + 1)
  stays stay count pushed =
      let next = FiltersInPlace-more_set in-place low stay here in
      let behind = next.behind in
      let was_behind = was.behind in
      let kinds_long = was.kinds_long in
      let low_rows : moves.count < length rows = omega (arith, was_behind, low) in
      let low_kinds : moves.count < length kinds = omega (arith, low_rows, kinds_long) in
      record {
        front = ap (λ n. take n (slice_set rows moves.count row)) count ∙ next.front;
        rest = next.rest;
        behind = omega (arith, behind, count);
        within = next.within;
        long = next.long;
        kinds_are = ap (λ n. take n (slice_set kinds moves.count row.kind)) count ∙ take_more_set kinds moves.count row.kind low_kinds
            ∙ (λ t. was.kinds_are t ++ row.kind ∷ []) ∙ sym (map-append (λ r. r.kind) (take moves.count rows) (row ∷ []))
            ∙ ap kinds_told (sym (take_more_set rows moves.count row low_rows)) ∙ ap (λ n. kinds_told (take n (slice_set rows moves.count row))) (sym count);
        kinds_long = length-set kinds moves.count row.kind ∙ kinds_long ∙ sym (length-set rows moves.count row);
        places_are = places-next (Some moves.count) (ap (λ b. if b then Some moves.count else None) stay) pushed;
      }

module _ {A : Type 0} (kept : List Bool) (all rows : List Row) (kinds : List StatementKind) (moves : Moves A) where
  -- nothing is taken yet
  pub none-taken-yet : rows ≡ all → kinds ≡ kinds_told all → moves.count ≡ 0 → moves.places.items ≡ [] → AreKeptTo kept all rows kinds moves 0
  none-taken-yet same told count none = record {
    front = ap (λ n. take n rows) count;
    rest = same;
    behind = omega (arith, count);
    within = omega arith;
    long = ap length same;
    kinds_are = ap (λ n. take n kinds) count ∙ ap (λ n. kinds_told (take n rows)) (sym count);
    kinds_long = ap length told ∙ length-map all (λ r. r.kind) ∙ sym (ap length same);
    places_are = none;
  }
