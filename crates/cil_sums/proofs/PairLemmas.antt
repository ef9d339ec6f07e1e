-- Lists whose items are apart.
use Rattle.std.proofs.Common.{◌≡◌, ◌≢◌, ◌⊎◌, ◌+◌, ◌-◌, ◌<◌, ◌≤◌, ℕ, suc, List, [], ◌∷◌, ◌++◌, map, length, get_or, take, drop, refl, sym, ap, subst, ◌∙◌, inl, inr, arith}
use Rattle.std.specs.List.{AllPairs, Contains}
use Rattle.std.proofs.lemmas.Bool.{cases_eq, cases_lt}
use Rattle.std.proofs.lemmas.List.{length-append, length-map, length-take, length-drop, get_or_append_left, get_or-append_right, get_or-map, get_or-take, get_or-drop, get_or_default}
use Rattle.std.proofs.lemmas.List.Elements.{Contains-get_or, Contains-append_left, Contains-append_right}

-- the items of one list are so to those of another
pub pairs-append : {X : Type 0} (R : X → X → Type 0) (xs ys : List X) → AllPairs R xs → AllPairs R ys → ((x y : X) → Contains xs x → Contains ys y → R x y) → AllPairs R (xs ++ ys)
pairs-append {X} R xs ys first second across i j d less within =
    elim (cases_lt j (length xs)) [
      | inl left ↦ subst (R (get_or (xs ++ ys) i d)) (sym (get_or_append_left xs ys d j left)) (subst (λ x. R x (get_or xs j d)) (sym (get_or_append_left xs ys d i (omega (arith, less, left)))) (first i j d less left))
      | inr past ↦
          let inside : j - length xs < length ys = omega (arith, length-append xs ys, within, past) in
          let at_j : get_or (xs ++ ys) j d ≡ get_or ys (j - length xs) d = get_or-append_right xs ys (length xs) j d refl past in
          subst (R (get_or (xs ++ ys) i d)) (sym at_j) (by (cases_lt i (length xs)) past inside)
    ]
  where
    by : (i < length xs) ⊎ (length xs ≤ i) → length xs ≤ j → j - length xs < length ys → R (get_or (xs ++ ys) i d) (get_or ys (j - length xs) d)
    by (inl left) past inside =
        subst (λ x. R x (get_or ys (j - length xs) d)) (sym (get_or_append_left xs ys d i left))
        (across (get_or xs i d) (get_or ys (j - length xs) d) (Contains-get_or xs i d left) (Contains-get_or ys (j - length xs) d inside))
    by (inr behind) past inside =
        subst (λ x. R x (get_or ys (j - length xs) d)) (sym (get_or-append_right xs ys (length xs) i d refl behind)) (second (i - length xs) (j - length xs) d (omega (arith, less, behind)) inside)

-- what stands for items that are apart
module _ {X Y : Type 0} (f : X → Y) where
  pub pairs-map : (S : Y → Y → Type 0) (xs : List X) → AllPairs (λ a b. a ≢ b) xs → ((a b : X) → Contains xs a → Contains xs b → a ≢ b → S (f a) (f b)) → AllPairs S (map f xs)
  pairs-map S [] once kept i j d less within = absurd (omega (arith, within))
  pairs-map S (x ∷ xs) once kept i j d less within =
      let inside : j < length (x ∷ xs) = omega (arith, within, length-map (x ∷ xs) f) in
      let before : i < length (x ∷ xs) = omega (arith, less, inside) in
      subst (S (get_or (map f (x ∷ xs)) i d)) (sym (get_or-map f (x ∷ xs) j x d inside))
      (subst (λ y. S y (f (get_or (x ∷ xs) j x))) (sym (get_or-map f (x ∷ xs) i x d before))
      (kept (get_or (x ∷ xs) i x) (get_or (x ∷ xs) j x) (Contains-get_or (x ∷ xs) i x before) (Contains-get_or (x ∷ xs) j x inside) (once i j x less inside)))

  pub mapped : (xs : List X) (x : X) → Contains xs x → Contains (map f xs) (f x)
  mapped xs x at = (at.0, omega (arith, at.1, length-map xs f), get_or-map f xs at.0 x (f x) at.1 ∙ ap f at.2)

  pub from-mapped : (xs : List X) (y : Y) → Contains (map f xs) y → (x : X) × Contains xs x × (f x ≡ y)
  from-mapped [] y at = absurd (let within = at.1 in omega (arith, within))
  from-mapped (x ∷ xs) y at =
      let within : at.0 < length (x ∷ xs) = omega (arith, at.1, length-map (x ∷ xs) f) in
      (get_or (x ∷ xs) at.0 x, Contains-get_or (x ∷ xs) at.0 x within, sym (get_or-map f (x ∷ xs) at.0 x y within) ∙ at.2)

-- items that are apart are at most as many as those of a list that has them all
module _ {X : Type 0} where
  abbrev without : ℕ → List X → List X
  without k ys = take k ys ++ drop (k + 1) ys

  still-there : (k : ℕ) (ys : List X) (x z : X) → k < length ys → get_or ys k x ≡ x → x ≢ z → Contains ys z → Contains (without k ys) z
  still-there k ys x z within is other at =
      elim (cases_lt at.0 k) [
        | inl before ↦
            Contains-append_left (take k ys) (drop (k + 1) ys) z (at.0, omega (arith, length-take k ys, before, within), get_or-take k ys at.0 z before ∙ at.2)
        | inr behind ↦ elim (cases_eq at.0 k) [
          | inl same ↦ absurd (other (sym is ∙ get_or_default ys k x z within ∙ ap (λ n. get_or ys n z) (sym same) ∙ at.2))
          | inr past ↦
              let place : k + 1 + (at.0 - (k + 1)) ≡ at.0 = omega (arith, behind, past) in
              Contains-append_right (take k ys) (drop (k + 1) ys) z
              (at.0 - (k + 1), omega (arith, length-drop (k + 1) ys, at.1, behind, past), get_or-drop (k + 1) ys (at.0 - (k + 1)) z ∙ ap (λ n. get_or ys n z) place ∙ at.2)
        ]
      ]

  pub at-most-all : (xs ys : List X) → AllPairs (λ a b. a ≢ b) xs → ((x : X) → Contains xs x → Contains ys x) → length xs ≤ length ys
  at-most-all [] ys once inside = omega arith
  at-most-all (x ∷ xs) ys once inside =
      let at = inside x (0, omega arith, refl) in
      let rest = at-most-all xs (without at.0 ys) (λ i j d less within. once (suc i) (suc j) d (omega (arith, less)) (omega (arith, within)))
      (λ z there. still-there at.0 ys x z at.1 at.2 (λ same. once 0 (suc there.0) z (omega arith) (omega (arith, there.1)) (same ∙ sym there.2)) (inside z (suc there.0, omega (arith, there.1), there.2))) in
      omega (arith, rest, length-append (take at.0 ys) (drop (at.0 + 1) ys), length-take at.0 ys, length-drop (at.0 + 1) ys, at.1)
