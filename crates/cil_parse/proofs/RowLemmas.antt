-- What a function makes of the row and the words of each statement.
use Rattle.cil_parse.proofs.Common.{◌≡◌, ℕ, zero, suc, ◌+◌, ◌<◌, List, [], ◌∷◌, ◌++◌, length, get_or, take, Some, slice_get, refl, ap, ◌∙◌, arith, of_rows, NumberedWord, Row}

module _ {X : Type 0} (f : Row → List NumberedWord → X) where
  -- that of one statement more
  made-suc : (rows : List Row) (lists : List (List NumberedWord)) (i : ℕ) (row : Row) → length lists ≡ length rows → i < length rows
      → of_rows f (take (suc i) rows) (take (suc i) lists)
      ≡ of_rows f (take i rows) (take i lists) ++ f (get_or rows i row) (get_or lists i []) ∷ []
  made-suc [] lists i row same within = absurd (omega arith)
  made-suc (r ∷ rows) [] i row same within = absurd (omega arith)
  made-suc (r ∷ rows) (l ∷ lists) zero row same within = refl
  made-suc (r ∷ rows) (l ∷ lists) (suc i) row same within = ap (λ more. f r l ∷ more) (made-suc rows lists i row (omega arith) (omega arith))

  pub made-next : (rows : List Row) (lists : List (List NumberedWord)) (i : ℕ) (row : Row) → length lists ≡ length rows → i < length rows
      → of_rows f (take (i + 1) rows) (take (i + 1) lists)
      ≡ of_rows f (take i rows) (take i lists) ++ f (get_or rows i row) (get_or lists i []) ∷ []
  made-next rows lists i row same within =
      let next : i + 1 ≡ suc i = omega arith in
      ap (λ n. of_rows f (take n rows) (take n lists)) next ∙ made-suc rows lists i row same within

  pub made-length : (rows : List Row) (lists : List (List NumberedWord)) → length lists ≡ length rows → length (of_rows f rows lists) ≡ length rows
  made-length [] lists same = refl
  made-length (r ∷ rows) [] same = absurd (omega arith)
  made-length (r ∷ rows) (l ∷ lists) same = ap suc (made-length rows lists (omega arith))

  -- that of the statement of an index
  pub made-at : (rows : List Row) (lists : List (List NumberedWord)) (i : ℕ) (row : Row) → length lists ≡ length rows → i < length rows
      → slice_get (of_rows f rows lists) i ≡ Some (f (get_or rows i row) (get_or lists i []))
  made-at [] lists i row same within = absurd (omega arith)
  made-at (r ∷ rows) [] i row same within = absurd (omega arith)
  made-at (r ∷ rows) (l ∷ lists) zero row same within = refl
  made-at (r ∷ rows) (l ∷ lists) (suc i) row same within = made-at rows lists i row (omega arith) (omega arith)
