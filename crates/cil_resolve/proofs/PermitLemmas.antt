-- What rules give of the permissions of their classes.
use Rattle.cil_resolve.proofs.Common.{◌≡◌, ◌∙◌, ℕ, ◌<◌, ◌==◌, Bool, true, false, ◌&&◌, ◌||◌, nat_lt, List, [], ◌∷◌, map, filter, cond, length, get_or, Contains, bytes_eq, IsTrue, refl, sym, ap, subst, true≢false, list_all, list_any, ltb-true, bytes_eq-Decides, bytes_eq-true, Expr, leaves, map_leaves, has_name, Meaning, has_named, is_class_with, both_true, first_true, second_true, any-contained, passes-among, contains-middle, names_rise}
use Rattle.cil_specs.specs.Expr.{holds_by, listed}
use Rattle.cil_specs.specs.Meaning.{has_permission}
use Rattle.cil_specs.proofs.ExistsLemmas.{of-all}
use Rattle.cil_expression.proofs.HoldsLemmas.{holds-agree, holds-mapped}
use Rattle.cil_expression.proofs.ListedLemmas.{holds-listed}
use Rattle.cil_resolve.proofs.RisingNames.{same-name}

and-false : (b : Bool) → (b && false) ≡ false
and-false true = refl
and-false false = refl

-- permissions of one class, by names
pub named-of-class : (names : List (List ℕ)) (class : ℕ) (c q : List ℕ) (given : List ℕ)
    → has_named names (map (λ n. record { class = class; permission = n }) given) c q ≡ (bytes_eq (get_or names class []) c && list_any (bytes_eq q) (map (λ n. get_or names n []) given))
named-of-class names class c q [] = sym (and-false (bytes_eq (get_or names class []) c))
named-of-class names class c q (n ∷ given) =
    ap (λ b. (bytes_eq (get_or names class []) c && bytes_eq q (get_or names n [])) || b) (named-of-class names class c q given)
    ∙ by (bytes_eq (get_or names class []) c) (bytes_eq q (get_or names n [])) (list_any (bytes_eq q) (map (λ n. get_or names n []) given))
  where
    by : (b one more : Bool) → ((b && one) || (b && more)) ≡ (b && (one || more))
    by true one more = refl
    by false one more = refl

-- one of some permissions that a class has is one of the class
named-there : (names has : List (List ℕ)) (q : List ℕ) → list_all (has_name has) names ≡ true → list_any (bytes_eq q) names ≡ true → has_name has q ≡ true
named-there [] has q all any = absurd (true≢false (sym any))
named-there (name ∷ names) has q all any = by (named-there names has q (second_true (has_name has name) (list_all (has_name has) names) all)) (bytes_eq q name) refl any
  where
    by : (list_any (bytes_eq q) names ≡ true → has_name has q ≡ true) → (b : Bool) → bytes_eq q name ≡ b → (b || list_any (bytes_eq q) names) ≡ true → has_name has q ≡ true
    by behind true e some = ap (has_name has) (bytes_eq-true q name e) ∙ first_true (has_name has name) (list_all (has_name has) names) all
    by behind false e some = behind some

-- A rule of a plain list gives what stands in it, of its class, where the class has all of it.
pub plain-gives : (meaning : Meaning) (the_class : List ℕ) (names : List (List ℕ)) → list_any (is_class_with the_class names) meaning.classes ≡ true → (c q : List ℕ)
    → (bytes_eq the_class c && (has_permission meaning c q && holds_by (bytes_eq q) (listed names))) ≡ (bytes_eq the_class c && list_any (bytes_eq q) names)
plain-gives meaning the_class names some c q = by (bytes_eq the_class c) refl
  where
    has : bytes_eq the_class c ≡ true → list_any (bytes_eq q) names ≡ true → has_permission meaning c q ≡ true
    has of_class any =
        let one = passes-among (is_class_with the_class names) meaning.classes some in
        let named = first_true (bytes_eq one.x.name the_class) (list_all (has_name one.x.permissions) names) one.passes in
        let all = second_true (bytes_eq one.x.name the_class) (list_all (has_name one.x.permissions) names) one.passes in
        let same = sym (bytes_eq-true the_class c of_class) ∙ sym (bytes_eq-true one.x.name the_class named) in
        any-contained (λ d. bytes_eq c d.name && list_any (bytes_eq q) d.permissions) meaning.classes one.x (subst (λ l. Contains l one.x) (sym one.split) (contains-middle one.before one.x one.after))
        (both_true (bytes_eq c one.x.name) (list_any (bytes_eq q) one.x.permissions) ((bytes_eq-Decides c one.x.name).1 same) (named-there names one.x.permissions q all any))

    which : bytes_eq the_class c ≡ true → (b : Bool) → list_any (bytes_eq q) names ≡ b → (has_permission meaning c q && b) ≡ b
    which of_class true any = ap (λ b. b && true) (has of_class any)
    which of_class false none = and-false (has_permission meaning c q)

    by : (b : Bool) → bytes_eq the_class c ≡ b → (b && (has_permission meaning c q && holds_by (bytes_eq q) (listed names))) ≡ (b && list_any (bytes_eq q) names)
    by true e = ap (λ b. has_permission meaning c q && b) (holds-listed (bytes_eq q) names) ∙ which e (list_any (bytes_eq q) names) refl
    by false e = refl

module _ (names : List (List ℕ)) (rise : IsTrue (names_rise names)) (e : Expr ℕ) (all : list_all (λ p. nat_lt p (length names)) (leaves e) ≡ true) where
  -- whether the expression holds a number
  abbrev held : ℕ → Bool
  held n = holds_by (λ p. n == p) e

  -- by names it holds the number's name
  held-named : (n : ℕ) → n < length names → held n ≡ holds_by (bytes_eq (get_or names n [])) (map_leaves (λ p. get_or names p []) e)
  held-named n low =
      holds-agree e (λ p. n == p) (λ p. bytes_eq (get_or names n []) (get_or names p [])) (λ p c. sym (same-name names n p rise low (ltb-true p (length names) (of-all (λ p. nat_lt p (length names)) (leaves e) p all c))))
      ∙ sym (holds-mapped (λ p. get_or names p []) (bytes_eq (get_or names n [])) e)

  -- Those of some numbers that it holds are, by names, those of their names that it holds.
  held-listed : (numbers : List ℕ) (q : List ℕ) → list_all (λ n. nat_lt n (length names)) numbers ≡ true
      → (has_name (map (λ n. get_or names n []) numbers) q && holds_by (bytes_eq q) (map_leaves (λ p. get_or names p []) e)) ≡ list_any (bytes_eq q) (map (λ n. get_or names n []) (filter held numbers))
  held-listed [] q within = refl
  held-listed (n ∷ numbers) q within =
      by (held-listed numbers q (second_true (nat_lt n (length names)) (list_all (λ n. nat_lt n (length names)) numbers) within)) (bytes_eq q (get_or names n [])) (held n) refl refl
    where
      H : Bool
      H = holds_by (bytes_eq q) (map_leaves (λ p. get_or names p []) e)

      some : List (List ℕ)
      some = map (λ n. get_or names n []) numbers

      more : List (List ℕ)
      more = map (λ n. get_or names n []) (filter held numbers)

      here : bytes_eq q (get_or names n []) ≡ true → H ≡ held n
      here same =
          ap (λ x. holds_by (bytes_eq x) (map_leaves (λ p. get_or names p []) e)) (bytes_eq-true q (get_or names n []) same)
          ∙ sym (held-named n (ltb-true n (length names) (first_true (nat_lt n (length names)) (list_all (λ n. nat_lt n (length names)) numbers) within)))

      by : (has_name some q && H) ≡ list_any (bytes_eq q) more → (b f : Bool) → bytes_eq q (get_or names n []) ≡ b → held n ≡ f
          → ((b || has_name some q) && H) ≡ list_any (bytes_eq q) (map (λ n. get_or names n []) (cond f (n ∷ filter held numbers) (filter held numbers)))
      by rest true true same holds = here same ∙ holds ∙ sym (ap (λ b. b || list_any (bytes_eq q) more) same)
      by rest true false same holds = here same ∙ holds ∙ sym (sym rest ∙ ap (λ b. has_name some q && b) (here same ∙ holds) ∙ and-false (has_name some q))
      by rest false true same holds = rest ∙ sym (ap (λ b. b || list_any (bytes_eq q) more) same)
      by rest false false same holds = rest

  -- A rule of this expression gives those of its class's permissions that it holds.
  pub written-gives : (meaning : Meaning) (the_class : List ℕ) (numbers given : List ℕ) → list_all (λ n. nat_lt n (length names)) numbers ≡ true
      → ((q : List ℕ) → has_permission meaning the_class q ≡ has_name (map (λ n. get_or names n []) numbers) q) → given ≡ filter (λ n. holds_by (λ p. n == p) e) numbers → (c q : List ℕ)
      → (bytes_eq the_class c && (has_permission meaning c q && holds_by (bytes_eq q) (map_leaves (λ p. get_or names p []) e))) ≡ (bytes_eq the_class c && list_any (bytes_eq q) (map (λ n. get_or names n []) given))
  written-gives meaning the_class numbers given within has are c q = by (bytes_eq the_class c) refl
    where
      by : (b : Bool) → bytes_eq the_class c ≡ b
          → (b && (has_permission meaning c q && holds_by (bytes_eq q) (map_leaves (λ p. get_or names p []) e))) ≡ (b && list_any (bytes_eq q) (map (λ n. get_or names n []) given))
      by false same = refl
      by true same =
          ap (λ h. h && holds_by (bytes_eq q) (map_leaves (λ p. get_or names p []) e)) (ap (λ x. has_permission meaning x q) (sym (bytes_eq-true the_class c same)) ∙ has q)
          ∙ held-listed numbers q within ∙ ap (λ l. list_any (bytes_eq q) (map (λ n. get_or names n []) l)) (sym are)
