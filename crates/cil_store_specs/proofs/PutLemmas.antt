-- Lists in an order: where an item is put in, and what is left without it.
use Rattle.cil_store_specs.proofs.Common.{◌≡◌, suc, cond, Bool, true, false, List, [], ◌∷◌, ◌++◌, filter, take, drop, fold, refl, sym, ap, ◌∙◌, subst, append_assoc, IsTotalOrder, insert, AllByRecursion, IsStrictlySortedBy, is_lt, Ordering, Less, Equal, Greater, append-nil, IsStrictlySortedBy-filter, all-weaker, all-append, all-second, IsTiedAt, less-is, place, AllBehind, reversed, behind-same, behind-greater, keep, skip, none-before, all-after, place-later, place-here, put_by}

module _ {X : Type 0} (cmp : X → X → Ordering) (order : IsTotalOrder cmp) where
  -- A list with one item more, by the place of the item.
  pub record Puts (x : X) (xs : List X) : Type 0 where
    pub replaced : IsTiedAt cmp xs (place cmp order x xs) x → put_by cmp x xs ≡ take (place cmp order x xs) xs ++ x ∷ drop (suc (place cmp order x xs)) xs
    pub inserted : (IsTiedAt cmp xs (place cmp order x xs) x → ⊥) → put_by cmp x xs ≡ insert xs (place cmp order x xs) x

  at-end : (x : X) → Puts x []
  at-end x = record { replaced = λ tied. absurd tied; inserted = λ other. refl }

  put-later : (x y : X) (xs : List X) → cmp y x ≡ Less → put_by cmp x (y ∷ xs) ≡ y ∷ put_by cmp x xs
  put-later x y xs less = λ i. keep cmp order (λ z. is_lt (cmp z x)) y xs (ap is_lt less) i ++ x ∷ skip cmp order (λ z. is_lt (cmp x z)) y xs (ap is_lt (reversed cmp order y x Less less)) i

  -- one behind all others is put in at the end
  pub put-last : (x : X) (xs : List X) → AllByRecursion (λ y. cmp y x ≡ Less) xs → put_by cmp x xs ≡ xs ++ x ∷ []
  put-last x [] before = refl
  put-last x (y ∷ xs) before = put-later x y xs before.0 ∙ ap (λ l. y ∷ l) (put-last x xs before.1)

  put-tied : (x y : X) (xs : List X) → cmp y x ≡ Equal → AllBehind cmp order y xs → put_by cmp x (y ∷ xs) ≡ x ∷ xs
  put-tied x y xs tied behind =
      λ i. (skip cmp order (λ z. is_lt (cmp z x)) y xs (ap is_lt tied) ∙ none-before cmp order x xs (behind-same cmp order x y xs tied behind)) i
      ++ x ∷ (skip cmp order (λ z. is_lt (cmp x z)) y xs (ap is_lt (reversed cmp order y x Equal tied)) ∙ all-after cmp order x xs (behind-same cmp order x y xs tied behind)) i

  put-front : (x y : X) (xs : List X) → cmp x y ≡ Less → AllBehind cmp order y xs → put_by cmp x (y ∷ xs) ≡ x ∷ y ∷ xs
  put-front x y xs less behind =
      let all : AllBehind cmp order x (y ∷ xs) = (less, behind-greater cmp order x y xs less behind) in
      λ i. none-before cmp order x (y ∷ xs) all i ++ x ∷ all-after cmp order x (y ∷ xs) all i

  pub puts : (x : X) (xs : List X) → IsStrictlySortedBy cmp xs → Puts x xs
  unfolding IsStrictlySortedBy
  puts x [] sorted = at-end x
  puts x (y ∷ xs) sorted = by (puts x xs sorted.1) (cmp y x) refl
    where
      by : Puts x xs → (o : Ordering) → cmp y x ≡ o → Puts x (y ∷ xs)
      by more Less is = record {
        replaced = λ tied.
            let k = place-later cmp order x y xs is in
            put-later x y xs is ∙ ap (λ l. y ∷ l) (more.replaced (subst (λ n. IsTiedAt cmp (y ∷ xs) n x) k tied)) ∙ ap (λ n. take n (y ∷ xs) ++ x ∷ drop (suc n) (y ∷ xs)) (sym k);
        inserted = λ other.
            let k = place-later cmp order x y xs is in
            put-later x y xs is ∙ ap (λ l. y ∷ l) (more.inserted (λ tied. other (subst (λ n. IsTiedAt cmp (y ∷ xs) n x) (sym k) tied))) ∙ ap (λ n. insert (y ∷ xs) n x) (sym k);
      }
      by more Equal is = record {
        replaced = λ tied. put-tied x y xs is sorted.0 ∙ ap (λ n. take n (y ∷ xs) ++ x ∷ drop (suc n) (y ∷ xs)) (sym (place-here cmp order x y xs Equal is refl));
        inserted = λ other. absurd (other (subst (λ n. IsTiedAt cmp (y ∷ xs) n x) (sym (place-here cmp order x y xs Equal is refl)) is));
      }
      by more Greater is = record {
        replaced = λ tied. absurd (let same : Equal ≡ Greater = sym (subst (λ n. IsTiedAt cmp (y ∷ xs) n x) (place-here cmp order x y xs Greater is refl) tied) ∙ is in cc);
        inserted = λ other. put-front x y xs (reversed cmp order y x Greater is) sorted.0 ∙ ap (λ n. insert (y ∷ xs) n x) (sym (place-here cmp order x y xs Greater is refl));
      }

  all-less : (p : X → Ordering) (xs : List X) → AllByRecursion (λ y. p y ≡ Less) (filter (λ y. is_lt (p y)) xs)
  all-less p [] = tt
  all-less p (y ∷ xs) = by (is_lt (p y)) refl (all-less p xs)
    where
      by : (b : Bool) → is_lt (p y) ≡ b → AllByRecursion (λ z. p z ≡ Less) (filter (λ z. is_lt (p z)) xs)
          → AllByRecursion (λ z. p z ≡ Less) (cond b (y ∷ filter (λ z. is_lt (p z)) xs) (filter (λ z. is_lt (p z)) xs))
      by true is more = (less-is (p y) is, more)
      by false is more = more

  sorted-around : (xs ys : List X) (x : X) → IsStrictlySortedBy cmp xs → IsStrictlySortedBy cmp ys → AllByRecursion (λ y. cmp y x ≡ Less) xs → AllByRecursion (λ y. cmp x y ≡ Less) ys → IsStrictlySortedBy cmp (xs ++ x ∷ ys)
  unfolding IsStrictlySortedBy
  sorted-around [] ys x first second before behind = (behind, second)
  sorted-around (y ∷ xs) ys x first second before behind = (
    all-append (λ z. cmp y z ≡ Less) xs (x ∷ ys) first.0 (before.0, all-weaker (λ z. cmp x z ≡ Less) (λ z. cmp y z ≡ Less) (λ z less. order.trans y x z before.0 less) ys behind),
    sorted-around xs ys x first.1 second before.1 behind,
  )

  -- in order an item stands behind those before it
  pub all-before : (xs : List X) (x : X) (ys : List X) → IsStrictlySortedBy cmp (xs ++ x ∷ ys) → AllByRecursion (λ y. cmp y x ≡ Less) xs
  unfolding IsStrictlySortedBy
  all-before [] x ys sorted = tt
  all-before (y ∷ xs) x ys sorted = ((all-second (λ z. cmp y z ≡ Less) xs (x ∷ ys) sorted.0).0, all-before xs x ys sorted.1)

  -- items that ascend are put in one after another behind those before them
  pub put-all : (xs ys : List X) → IsStrictlySortedBy cmp (xs ++ ys) → fold (λ zs z. put_by cmp z zs) xs ys ≡ xs ++ ys
  put-all xs [] sorted = sym (append-nil xs)
  put-all xs (y ∷ ys) sorted =
      ap (λ zs. fold (λ zs z. put_by cmp z zs) zs ys) (put-last y xs (all-before xs y ys sorted))
      ∙ put-all (xs ++ y ∷ []) ys (subst (IsStrictlySortedBy cmp) (sym (append_assoc xs (y ∷ []) ys)) sorted)
      ∙ append_assoc xs (y ∷ []) ys

  -- with one item more a list is in order
  pub put-ordered : (x : X) (xs : List X) → IsStrictlySortedBy cmp xs → IsStrictlySortedBy cmp (put_by cmp x xs)
  put-ordered x xs sorted =
      sorted-around (filter (λ y. is_lt (cmp y x)) xs) (filter (λ y. is_lt (cmp x y)) xs) x
      (IsStrictlySortedBy-filter cmp (λ y. is_lt (cmp y x)) xs sorted) (IsStrictlySortedBy-filter cmp (λ y. is_lt (cmp x y)) xs sorted)
      (all-less (λ y. cmp y x) xs) (all-less (λ y. cmp x y) xs)
