-- What an expression holds follows from the attributes that it mentions. Where no attribute depends on itself, more fuel than one
-- for each attribute changes nothing.
use Rattle.cil_specs.proofs.Common.{zero, suc, ◌≡◌, ℕ, ◌<◌, ◌≤◌, ◌⊎◌, inl, inr, Bool, true, false, not, ◌&&◌, ◌||◌, List, [], ◌∷◌, ◌++◌, length, bytes_eq, refl, sym, ap, ◌∙◌, subst, arith, or-true, bytes_eq-Decides, list_any, Expr, every, named, opposite, both, either, one_of, nothing, elements, leaves, has_name, Element, a_type, an_attribute, SetStatement, differ, expr_holds, attribute_holds, holds_with, is_the_attribute, mentions, IsNextOf, DependsOn, HasNoCircle}
use Rattle.std.proofs.Common.{filter, Contains, true≢false}
use Rattle.std.proofs.lemmas.List.Folds.{list_any-append}
use Rattle.cil_specs.proofs.NamesLemmas.{contains-first, contains-other}
use Rattle.cil_specs.proofs.RestrictedLemmas.{filter-yes, filter-no, any-passed}

-- what one of two expressions mentions, both together do
mentions-first : (a : List ℕ) (x y : Expr Element) → mentions a x ≡ true → list_any (is_the_attribute a) (leaves x ++ leaves y) ≡ true
mentions-first a x y m = list_any-append (is_the_attribute a) (leaves x) (leaves y) ∙ ap (λ b. b || mentions a y) m

mentions-second : (a : List ℕ) (x y : Expr Element) → mentions a y ≡ true → list_any (is_the_attribute a) (leaves x ++ leaves y) ≡ true
mentions-second a x y m = list_any-append (is_the_attribute a) (leaves x) (leaves y) ∙ ap (λ b. mentions a x || b) m ∙ or-true (mentions a x)

alike : (op : Bool → Bool → Bool) (b c d e : Bool) → b ≡ c → d ≡ e → op b d ≡ op c e
alike op b c d e p q = ap (λ z. op z d) p ∙ ap (op c) q

module _ (f g : List ℕ → Bool) (t : List ℕ) where
  -- an expression holds a type alike where the attributes that it mentions do
  pub holds-agree : (e : Expr Element) → ((a : List ℕ) → mentions a e ≡ true → f a ≡ g a) → expr_holds f e t ≡ expr_holds g e t
  holds-agree every h = refl
  holds-agree (named (a_type name)) h = refl
  holds-agree (named (an_attribute name)) h = h name (ap (λ b. b || false) ((bytes_eq-Decides name name).1 refl))
  holds-agree (opposite x) h = ap not (holds-agree x h)
  holds-agree (both x y) h = alike (λ b c. b && c) (expr_holds f x t) (expr_holds g x t) (expr_holds f y t) (expr_holds g y t) (holds-agree x (λ a m. h a (mentions-first a x y m))) (holds-agree y (λ a m. h a (mentions-second a x y m)))
  holds-agree (either x y) h = alike (λ b c. b || c) (expr_holds f x t) (expr_holds g x t) (expr_holds f y t) (expr_holds g y t) (holds-agree x (λ a m. h a (mentions-first a x y m))) (holds-agree y (λ a m. h a (mentions-second a x y m)))
  holds-agree (one_of x y) h = alike differ (expr_holds f x t) (expr_holds g x t) (expr_holds f y t) (expr_holds g y t) (holds-agree x (λ a m. h a (mentions-first a x y m))) (holds-agree y (λ a m. h a (mentions-second a x y m)))
  holds-agree nothing h = refl
  holds-agree (elements x more) h = alike (λ b c. b || c) (expr_holds f x t) (expr_holds g x t) (expr_holds f more t) (expr_holds g more t) (holds-agree x (λ a m. h a (mentions-first a x more m))) (holds-agree more (λ a m. h a (mentions-second a x more m)))

-- two tests that agree on the elements of a list
pub any-agree : {X : Type 0} (p q : X → Bool) (xs : List X) → ((x : X) → Contains xs x → p x ≡ q x) → list_any p xs ≡ list_any q xs
any-agree p q [] h = refl
any-agree p q (x ∷ xs) h = alike (λ b c. b || c) (p x) (q x) (list_any p xs) (list_any q xs) (h x (contains-first x xs)) (any-agree p q xs (λ y c. h y (contains-other x xs y c)))

-- names without one
abbrev without : List ℕ → List (List ℕ) → List (List ℕ)
without name names = filter (λ other. not (bytes_eq name other)) names

has-without : (name other : List ℕ) (names : List (List ℕ)) → bytes_eq name other ≡ false → has_name names other ≡ true → has_name (without name names) other ≡ true
has-without name other names apart has =
    any-passed (λ x. not (bytes_eq name x)) (bytes_eq other) names (λ x _ e. ap not (subst (λ y. bytes_eq name y ≡ false) ((bytes_eq-Decides other x).0 e) apart)) ∙ has

no-longer : {X : Type 0} (w : X → Bool) (xs : List X) → length (filter w xs) ≤ length xs
no-longer w [] = omega arith
no-longer w (x ∷ xs) = by (w x) refl (no-longer w xs)
  where
    by : (b : Bool) → w x ≡ b → length (filter w xs) ≤ length xs → length (filter w (x ∷ xs)) ≤ suc (length xs)
    by true e more = subst (λ ys. length ys ≤ suc (length xs)) (sym (filter-yes w x xs e)) (omega (arith, more))
    by false e more = subst (λ ys. length ys ≤ suc (length xs)) (sym (filter-no w x xs e)) (omega (arith, more))

shorter : (name : List ℕ) (names : List (List ℕ)) → has_name names name ≡ true → length (without name names) < length names
shorter name [] has = absurd (true≢false (sym has))
shorter name (x ∷ xs) has = by (shorter name xs) (bytes_eq name x) refl
  where
    by : (has_name xs name ≡ true → length (without name xs) < length xs) → (b : Bool) → bytes_eq name x ≡ b → length (without name (x ∷ xs)) < suc (length xs)
    by more true e = subst (λ ys. length ys < suc (length xs)) (sym (filter-no (λ other. not (bytes_eq name other)) x xs (ap not e))) (let few = no-longer (λ other. not (bytes_eq name other)) xs in omega (arith, few))
    by more false e = subst (λ ys. length ys < suc (length xs)) (sym (filter-yes (λ other. not (bytes_eq name other)) x xs (ap not e))) (let few = more (ap (λ b. b || has_name xs name) (sym e) ∙ has) in omega (arith, few))

module _ (sets : List SetStatement) where
  -- an attribute without a set statement holds nothing
  holds-none : (a t : List ℕ) → ((s : SetStatement) → Contains sets s → bytes_eq a s.attribute ≡ false) → (n : ℕ) → attribute_holds sets n a t ≡ false
  holds-none a t none zero = refl
  holds-none a t none (suc n) = any-agree (λ s. bytes_eq a s.attribute && expr_holds (λ b. attribute_holds sets n b t) s.expr t) (λ s. false) sets (λ s c. ap (λ b. b && expr_holds (λ b. attribute_holds sets n b t) s.expr t) (none s c)) ∙ nowhere sets
    where
      nowhere : (xs : List SetStatement) → list_any (λ s. false) xs ≡ false
      nowhere [] = refl
      nowhere (x ∷ xs) = nowhere xs

  -- The names are all those with set statements that an attribute is, or depends on.
  abbrev AreBelow : List (List ℕ) → List ℕ → Type 0
  AreBelow names a = (s : SetStatement) → Contains sets s → ((s.attribute ≡ a) ⊎ DependsOn sets a s.attribute) → has_name names s.attribute ≡ true

  depends-more : (a b : List ℕ) (s : SetStatement) → IsNextOf sets a b → ((s.attribute ≡ b) ⊎ DependsOn sets b s.attribute) → DependsOn sets a s.attribute
  depends-more a b s step (inl same) = ([], subst (IsNextOf sets a) (sym same) step)
  depends-more a b s step (inr (between, rest)) = (b ∷ between, (step, rest))

  -- the names below what an attribute mentions are fewer, where it doesn't depend on itself
  below-next : (none : HasNoCircle sets) (names : List (List ℕ)) (a b : List ℕ) → AreBelow names a → IsNextOf sets a b → AreBelow (without a names) b
  below-next none names a b below step s is_in under = by (bytes_eq a s.attribute) refl
    where
      depends : DependsOn sets a s.attribute
      depends = depends-more a b s step under

      by : (c : Bool) → bytes_eq a s.attribute ≡ c → has_name (without a names) s.attribute ≡ true
      by true e = absurd (none a (subst (DependsOn sets a) (sym ((bytes_eq-Decides a s.attribute).0 e)) depends))
      by false e = has-without a s.attribute names e (below s is_in (inr depends))

  module _ (none : HasNoCircle sets) (t : List ℕ) where
    stable : (k : ℕ) (names : List (List ℕ)) (a : List ℕ) → length names ≤ k → AreBelow names a → (n m : ℕ) → k ≤ n → k ≤ m → attribute_holds sets n a t ≡ attribute_holds sets m a t
    stable zero (x ∷ names) a short below n m hn hm = absurd (omega (arith, short))
    stable zero [] a short below n m hn hm = holds-none a t empty n ∙ sym (holds-none a t empty m)
      where
        empty : (s : SetStatement) → Contains sets s → bytes_eq a s.attribute ≡ false
        empty s c = by (bytes_eq a s.attribute) refl
          where
            by : (b : Bool) → bytes_eq a s.attribute ≡ b → b ≡ false
            by true e = absurd (true≢false (sym (below s c (inl (sym ((bytes_eq-Decides a s.attribute).0 e))))))
            by false e = refl
    stable (suc k) names a short below zero m hn hm = absurd (omega (arith, hn))
    stable (suc k) names a short below (suc n) zero hn hm = absurd (omega (arith, hm))
    stable (suc k) names a short below (suc n) (suc m) hn hm =
        any-agree (λ s. bytes_eq a s.attribute && expr_holds (λ b. attribute_holds sets n b t) s.expr t) (λ s. bytes_eq a s.attribute && expr_holds (λ b. attribute_holds sets m b t) s.expr t) sets
        (λ s c. by (λ others b fewer under. stable k others b fewer under n m (omega (arith, hn)) (omega (arith, hm))) s c (bytes_eq a s.attribute) refl)
      where
        by : ((others : List (List ℕ)) (b : List ℕ) → length others ≤ k → AreBelow others b → attribute_holds sets n b t ≡ attribute_holds sets m b t) → (s : SetStatement) → Contains sets s
            → (q : Bool) → bytes_eq a s.attribute ≡ q → (q && expr_holds (λ b. attribute_holds sets n b t) s.expr t) ≡ (q && expr_holds (λ b. attribute_holds sets m b t) s.expr t)
        by next s c false e = refl
        by next s c true e =
            let same : s.attribute ≡ a = sym ((bytes_eq-Decides a s.attribute).0 e) in
            let fewer = shorter a names (subst (λ b. has_name names b ≡ true) same (below s c (inl same))) in
            holds-agree (λ b. attribute_holds sets n b t) (λ b. attribute_holds sets m b t) t s.expr
            (λ b mentioned. next (without a names) b (omega (arith, fewer, short)) (below-next none names a b below (record { s = s; is_in = c; of_attribute = same; mentioned = mentioned })))

-- Where no attribute depends on itself, and the names are those of all attributes with set statements, more fuel than one for each
-- name changes nothing.
pub more-fuel : (sets : List SetStatement) → HasNoCircle sets → (names : List (List ℕ)) → ((s : SetStatement) → Contains sets s → has_name names s.attribute ≡ true)
    → (n : ℕ) → length names ≤ n → (e : Expr Element) (t : List ℕ) → holds_with sets n e t ≡ holds_with sets (length names) e t
more-fuel sets none names own n enough e t =
    holds-agree (λ a. attribute_holds sets n a t) (λ a. attribute_holds sets (length names) a t) t e
    (λ a _. stable sets none t (length names) names a (omega arith) (λ s c _. own s c) n (length names) enough (omega arith))
