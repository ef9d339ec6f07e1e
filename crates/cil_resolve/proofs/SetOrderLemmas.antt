-- The graph of set statements, and their order.
use Rattle.cil_resolve.proofs.Common.{◌≡◌, ◌≢◌, ◌↔◌, ◌⊎◌, ◌∙◌, inl, inr, ℕ, zero, suc, ◌+◌, ◌<◌, ◌≤◌, true, List, [], ◌∷◌, ◌++◌, length, take, map, get_or, nat_lt, Option, Some, None, Result, Ok, Err, IfOk, Vec, All, Contains, refl, sym, ap, subst, arith, list_all, AllByRecursion, cases_eq, cases_lt, nat_eq_equiv, get_or_default, get_or-map, length-map, take_all, take_more, Contains-append_left, Contains-push, Contains-push_cases, list_any-from_Contains, get_or_from_slice_get, slice_get_within, cons_option, option_and_then, contains-cases, none-there, leaves, set_expr_in, first_true, second_true, IsEdge, AreNodes, LeadsThrough, Element, «Type», Attribute, NumberedSet, is_set_below, is_element_below, names_in, attributes_in, AreStraight, DependsThrough, IsNext, IsSetOrder, Mentions, StandTogether, sets_at}
use Rattle.std.proofs.Common.{slice_get, AllPairs, ltb-true}
use Rattle.cil_dependence.specs.Dependence.{IsOrder, IsCircular}
use Rattle.cil_dependence.specs.Items.{AreEachOnce, ComesBefore}

-- edges lead from an attribute to those among these names
abbrev pub HasNamed : {A : Type 0} → ℕ → List Element → List (Vec ℕ A) → List (Vec ℕ A) → Type 0
HasNamed from names old new = (a b : ℕ) → IsEdge new a b ↔ (IsEdge old a b ⊎ ((from ≡ a) × Contains names (Attribute b)))

pub type-apart : (i b : ℕ) → «Type» i ≡ Attribute b → ⊥
type-apart i b e = cc

-- a name that is no attribute
pub named-skip : {A : Type 0} (from i : ℕ) (e d : Element) (read names : List Element) (old mid : List (Vec ℕ A)) → read ≡ names → i < length read → get_or read i d ≡ e → ((b : ℕ) → e ≡ Attribute b → ⊥)
    → HasNamed from (take i names) old mid → HasNamed from (take (i + 1) names) old mid
named-skip from i e d read names old mid same low is other has a b = (there, back)
  where
    low_too : i < length names
    low_too = subst (λ l. i < length l) same low

    more : take (i + 1) names ≡ take i names ++ e ∷ []
    more = take_more names i d low_too ∙ ap (λ x. take i names ++ x ∷ []) (ap (λ l. get_or l i d) (sym same) ∙ is)

    there : IsEdge mid a b → IsEdge old a b ⊎ ((from ≡ a) × Contains (take (i + 1) names) (Attribute b))
    there edge = elim ((has a b).0 edge) [ inl was ↦ inl was | inr (own, c) ↦ inr (own, subst (λ l. Contains l (Attribute b)) (sym more) (Contains-append_left (take i names) (e ∷ []) (Attribute b) c)) ]

    back : IsEdge old a b ⊎ ((from ≡ a) × Contains (take (i + 1) names) (Attribute b)) → IsEdge mid a b
    back (inl was) = (has a b).1 (inl was)
    back (inr (own, c)) = elim (Contains-push_cases (take i names) e (Attribute b) (subst (λ l. Contains l (Attribute b)) more c)) [ inl before ↦ (has a b).1 (inr (own, before)) | inr is_it ↦ absurd (other b is_it) ]

-- an attribute among them
pub named-next : {A : Type 0} (from to i : ℕ) (d : Element) (read names : List Element) (old mid new : List (Vec ℕ A)) → read ≡ names → i < length read → get_or read i d ≡ Attribute to
    → ((a b : ℕ) → IsEdge new a b ↔ (IsEdge mid a b ⊎ ((a ≡ from) × (b ≡ to)))) → HasNamed from (take i names) old mid → HasNamed from (take (i + 1) names) old new
named-next from to i d read names old mid new same low is edges has a b = (there, back)
  where
    low_too : i < length names
    low_too = subst (λ l. i < length l) same low

    more : take (i + 1) names ≡ take i names ++ Attribute to ∷ []
    more = take_more names i d low_too ∙ ap (λ x. take i names ++ x ∷ []) (ap (λ l. get_or l i d) (sym same) ∙ is)

    was : Contains (take i names) (Attribute b) → Contains (take (i + 1) names) (Attribute b)
    was c = subst (λ l. Contains l (Attribute b)) (sym more) (Contains-append_left (take i names) (Attribute to ∷ []) (Attribute b) c)

    here : b ≡ to → Contains (take (i + 1) names) (Attribute b)
    here same = subst (λ l. Contains l (Attribute b)) (sym more) (subst (λ n. Contains (take i names ++ Attribute to ∷ []) (Attribute n)) (sym same) (Contains-push (take i names) (Attribute to)))

    there : IsEdge new a b → IsEdge old a b ⊎ ((from ≡ a) × Contains (take (i + 1) names) (Attribute b))
    there edge = elim ((edges a b).0 edge) [
      | inl before ↦ elim ((has a b).0 before) [ inl old ↦ inl old | inr (own, c) ↦ inr (own, was c) ]
      | inr (own, at) ↦ inr (sym own, here at)
    ]

    same-to : Attribute to ≡ Attribute b → b ≡ to
    same-to e = cc

    back : IsEdge old a b ⊎ ((from ≡ a) × Contains (take (i + 1) names) (Attribute b)) → IsEdge new a b
    back (inl old) = (edges a b).1 (inl ((has a b).1 (inl old)))
    back (inr (own, c)) = elim (Contains-push_cases (take i names) (Attribute to) (Attribute b) (subst (λ l. Contains l (Attribute b)) more c)) [
      | inl before ↦ (edges a b).1 (inl ((has a b).1 (inr (own, before))))
      | inr is_it ↦ (edges a b).1 (inr (sym own, same-to is_it))
    ]

pub named-all : {A B : Type 0} (s : NumberedSet A) (i : ℕ) (read : List Element) (old new : List (Vec ℕ B)) → read ≡ names_in s → length read ≤ i → HasNamed s.attribute (take i (names_in s)) old new
    → (a b : ℕ) → IsEdge new a b ↔ (IsEdge old a b ⊎ Mentions s a b)
named-all s i read old new same past has = subst (λ l. HasNamed s.attribute l old new) (take_all i (names_in s) (subst (λ l. length l ≤ i) same past)) has

-- one statement more
pub next-more : {A B : Type 0} (sets : List (NumberedSet A)) (i : ℕ) (s : NumberedSet A) (mid new : List (Vec ℕ B)) → i < length sets → s ≡ get_or sets i s
    → ((a b : ℕ) → IsEdge mid a b ↔ IsNext (take i sets) a b) → ((a b : ℕ) → IsEdge new a b ↔ (IsEdge mid a b ⊎ Mentions s a b)) → (a b : ℕ) → IsEdge new a b ↔ IsNext (take (i + 1) sets) a b
next-more {A} sets i s mid new low is has edges a b = (there, back)
  where
    more : take (i + 1) sets ≡ take i sets ++ s ∷ []
    more = take_more sets i s low ∙ ap (λ x. take i sets ++ x ∷ []) (sym is)

    there : IsEdge new a b → IsNext (take (i + 1) sets) a b
    there edge = elim ((edges a b).0 edge) [
      | inl before ↦ (let next = (has a b).0 before in record { s = next.s; is_in = subst (λ l. Contains l next.s) (sym more) (Contains-append_left (take i sets) (s ∷ []) next.s next.is_in); mentions = next.mentions })
      | inr own ↦ record { s = s; is_in = subst (λ l. Contains l s) (sym more) (Contains-push (take i sets) s); mentions = own }
    ]

    back : IsNext (take (i + 1) sets) a b → IsEdge new a b
    back next = elim (Contains-push_cases (take i sets) s next.s (subst (λ l. Contains l next.s) more next.is_in)) [
      | inl before ↦ (edges a b).1 (inl ((has a b).1 (record { s = next.s; is_in = before; mentions = next.mentions })))
      | inr same ↦ (edges a b).1 (inr (subst (λ t. Mentions t a b) (sym same) next.mentions))
    ]

pub next-all : {A B : Type 0} (sets : List (NumberedSet A)) (i : ℕ) (graph : List (Vec ℕ B)) → length sets ≤ i → ((a b : ℕ) → IsEdge graph a b ↔ IsNext (take i sets) a b) → (a b : ℕ) → IsEdge graph a b ↔ IsNext sets a b
next-all sets i graph past has = subst (λ l. (a b : ℕ) → IsEdge graph a b ↔ IsNext l a b) (take_all i sets past) has

-- numbers below the number of names
element-below : (names : ℕ) (elements : List Element) (e : Element) → list_all (is_element_below names) elements ≡ true → Contains elements e → is_element_below names e ≡ true
element-below names [] e all c = absurd (omega (arith, c.1))
element-below names (x ∷ elements) e all (zero, low, is) = subst (λ y. is_element_below names y ≡ true) is (first_true (is_element_below names x) (list_all (is_element_below names) elements) all)
element-below names (x ∷ elements) e all (suc k, low, is) = element-below names elements e (second_true (is_element_below names x) (list_all (is_element_below names) elements) all) (k, omega (arith, low), is)

module _ {A : Type 0} (names : ℕ) where
  each-below : (sets : List (NumberedSet A)) (s : NumberedSet A) → list_all (is_set_below names) sets ≡ true → Contains sets s → is_set_below names s ≡ true
  each-below [] s all c = absurd (omega (arith, c.1))
  each-below (x ∷ sets) s all (zero, low, is) = subst (λ y. is_set_below names y ≡ true) is (first_true (is_set_below names x) (list_all (is_set_below names) sets) all)
  each-below (x ∷ sets) s all (suc k, low, is) = each-below sets s (second_true (is_set_below names x) (list_all (is_set_below names) sets) all) (k, omega (arith, low), is)

  pub attribute-below : (sets : List (NumberedSet A)) (s : NumberedSet A) → list_all (is_set_below names) sets ≡ true → Contains sets s → s.attribute < names
  attribute-below sets s all c = ltb-true s.attribute names (first_true (nat_lt s.attribute names) (list_all (is_element_below names) (leaves (set_expr_in s.expression))) (each-below sets s all c))

  pub named-below : (sets : List (NumberedSet A)) (s : NumberedSet A) (b : ℕ) → list_all (is_set_below names) sets ≡ true → Contains sets s → Contains (names_in s) (Attribute b) → b < names
  named-below sets s b all c d =
      ltb-true b names (element-below names (leaves (set_expr_in s.expression)) (Attribute b) (second_true (nat_lt s.attribute names) (list_all (is_element_below names) (leaves (set_expr_in s.expression))) (each-below sets s all c)) d)

  pub attributes-below : (sets : List (NumberedSet A)) → list_all (is_set_below names) sets ≡ true → All (λ n. n < names) (attributes_in sets)
  attributes-below [] all k d low = absurd (omega (arith, low))
  attributes-below (x ∷ sets) all zero d low = attribute-below (x ∷ sets) x all (0, omega arith, refl)
  attributes-below (x ∷ sets) all (suc k) d low = attributes-below sets (second_true (is_set_below names x) (list_all (is_set_below names) sets) all) k d (omega (arith, low))

-- what holds of the value of both
pub both-ok : {T E : Type 0} (r : Result T E) (P Q R : T → Type 0) → ((x : T) → P x → Q x → R x) → IfOk r P → IfOk r Q → IfOk r R
both-ok (Ok x) P Q R f p q = f x p q
both-ok (Err e) P Q R f p q = tt

-- the graph of set statements
module _ {A B : Type 0} (sets : List (NumberedSet A)) (graph : List (Vec ℕ B)) (edges : (a b : ℕ) → IsEdge graph a b ↔ IsNext sets a b) where
  pub through-depends : (between : List ℕ) (a b : ℕ) → LeadsThrough graph a between b → DependsThrough sets a between b
  through-depends [] a b edge = (edges a b).0 edge
  through-depends (x ∷ between) a b (edge, more) = ((edges a x).0 edge, through-depends between x b more)

  pub no-circle : (a : ℕ) → AreStraight sets → IsCircular graph a → ⊥
  no-circle a straight circle = straight a circle.leads.0 (through-depends circle.leads.0 a a circle.leads.1)

  pub graph-nodes : (names : ℕ) → length graph ≡ names → list_all (is_set_below names) sets ≡ true → AreNodes graph
  graph-nodes names long below a b edge =
      let next = (edges a b).0 edge in
      let low = named-below names sets next.s b below next.is_in next.mentions.1 in
      omega (arith, low, long)

  -- the order of the nodes is that of the statements
  module _ (order items : List ℕ) (is : IsOrder graph order) (below : All (λ n. n < length graph) (attributes_in sets))
      (each : AreEachOnce (length (attributes_in sets)) items) (behind : AllPairs (ComesBefore order (attributes_in sets)) items) where
    place-once : (p q : ℕ) → p < length order → q < length order → get_or order p 0 ≡ get_or order q 0 → p ≡ q
    place-once p q low then same = elim (cases_eq p q) [
      | inl e ↦ e
      | inr apart ↦ absurd (elim (ordered p q apart) [ inl less ↦ is.once p q less then same | inr more ↦ is.once q p more low (sym same) ])
    ]
      where
        ordered : (p q : ℕ) → p ≢ q → (p < q) ⊎ (q < p)
        ordered p q apart = elim (cases_lt p q) [ inl less ↦ inl less | inr more ↦ inr (omega (arith, apart, more)) ]

    no-self : (a : ℕ) → a < length graph → IsEdge graph a a → ⊥
    no-self a low edge =
        let (p, there, at) = is.all a low in
        let at_zero : get_or order p 0 ≡ a = get_or_default order p 0 a there ∙ at in
        let less = is.behind p p there there (subst (λ n. IsEdge graph n n) (sym at_zero) edge) in
        omega (arith, less)

    no-edge : (x y : ℕ) → get_or (attributes_in sets) x 0 < length graph → ComesBefore order (attributes_in sets) x y → IsEdge graph (get_or (attributes_in sets) x 0) (get_or (attributes_in sets) y 0) → ⊥
    no-edge x y low (inl (p, q, less, there, at, then)) edge =
        let back = is.behind p q (omega (arith, less, there)) there (subst (λ n. IsEdge graph n (get_or order q 0)) (sym at) (subst (IsEdge graph (get_or (attributes_in sets) x 0)) (sym then) edge)) in
        omega (arith, back, less)
    no-edge x y low (inr (same, less)) edge = no-self (get_or (attributes_in sets) x 0) low (subst (IsEdge graph (get_or (attributes_in sets) x 0)) (sym same) edge)

    attribute-at : (x : ℕ) (s : NumberedSet A) → slice_get sets x ≡ Some s → get_or (attributes_in sets) x 0 ≡ s.attribute
    attribute-at x s at = get_or-map (λ (y : NumberedSet A). y.attribute) sets x s 0 (slice_get_within sets x s at) ∙ ap (λ (y : NumberedSet A). y.attribute) (get_or_from_slice_get sets x s s at)

    set-there : (x : ℕ) (s : NumberedSet A) → slice_get sets x ≡ Some s → Contains sets s
    set-there x s at = (x, slice_get_within sets x s at, get_or_from_slice_get sets x s s at)

    low-attribute : (x : ℕ) (s : NumberedSet A) → slice_get sets x ≡ Some s → get_or (attributes_in sets) x 0 < length graph
    low-attribute x s at = below x 0 (let within = slice_get_within sets x s at in let long = length-map sets (λ (y : NumberedSet A). y.attribute) in omega (arith, within, long))

    edge-at : (x y : ℕ) (s t : NumberedSet A) → slice_get sets x ≡ Some s → slice_get sets y ≡ Some t → Contains (names_in s) (Attribute t.attribute)
        → IsEdge graph (get_or (attributes_in sets) x 0) (get_or (attributes_in sets) y 0)
    edge-at x y s t at then m =
        (edges (get_or (attributes_in sets) x 0) (get_or (attributes_in sets) y 0)).1
        (record { s = s; is_in = set-there x s at; mentions = (sym (attribute-at x s at), subst (λ n. Contains (names_in s) (Attribute n)) (sym (attribute-at y t then)) m) })

    stands-in-order : (i j : ℕ) (s t : NumberedSet A) → i ≤ j → j < length items → slice_get sets (get_or items i 0) ≡ Some s → slice_get sets (get_or items j 0) ≡ Some t
        → Contains (names_in s) (Attribute t.attribute) → ⊥
    stands-in-order i j s t le low at then m = elim (cases_lt i j) [
      | inl less ↦
          no-edge (get_or items i 0) (get_or items j 0) (low-attribute (get_or items i 0) s at) (behind i j 0 less low)
          (edge-at (get_or items i 0) (get_or items j 0) s t at then m)
      | inr past ↦
          (let same : i ≡ j = omega (arith, le, past) in
          no-self (get_or (attributes_in sets) (get_or items i 0) 0) (low-attribute (get_or items i 0) s at)
          (subst (λ n. IsEdge graph (get_or (attributes_in sets) (get_or items i 0) 0) (get_or (attributes_in sets) (get_or items n 0) 0)) (sym same) (edge-at (get_or items i 0) (get_or items j 0) s t at then m)))
    ]

    between : (x y z : ℕ) → ComesBefore order (attributes_in sets) x y → ComesBefore order (attributes_in sets) y z → get_or (attributes_in sets) x 0 ≡ get_or (attributes_in sets) z 0
        → get_or (attributes_in sets) y 0 ≡ get_or (attributes_in sets) x 0
    between x y z (inr (same, less)) second ends = sym same
    between x y z (inl first) (inr (same, less)) ends = same ∙ sym ends
    between x y z (inl (p, q, less, there, at, then)) (inl (r, s, more, where_, from, to)) ends =
        let middle : q ≡ r = place-once q r there (omega (arith, more, where_)) (then ∙ sym from) in
        let outer : p ≡ s = place-once p s (omega (arith, less, there)) where_ (at ∙ ends ∙ sym to) in
        absurd (omega (arith, less, more, middle, outer))

    pub set-order : IsSetOrder sets items
    set-order = record {
      all = λ n low. list_any-from_Contains nat_eq_equiv n items (each.all n (omega (arith, low, same)));
      within = λ k d low. (let at = each.within k d low in omega (arith, at, same));
      once = each.once;
      in_order = stands-in-order;
      together = stands-together;
    }
      where
        same : length (attributes_in sets) ≡ length sets
        same = length-map sets (λ (y : NumberedSet A). y.attribute)

        mapped : (k : ℕ) → k < length items → get_or (map (λ n. get_or (attributes_in sets) n 0) items) k 0 ≡ get_or (attributes_in sets) (get_or items k 0) 0
        mapped k low = get_or-map (λ n. get_or (attributes_in sets) n 0) items k 0 0 low

        stands-together : StandTogether (map (λ n. get_or (attributes_in sets) n 0) items)
        stands-together i j k less more low ends =
            let long = length-map items (λ n. get_or (attributes_in sets) n 0) in
            let third : k < length items = omega (arith, low, long) in
            let second : j < length items = omega (arith, third, more) in
            let first : i < length items = omega (arith, second, less) in
            mapped j second
            ∙ between (get_or items i 0) (get_or items j 0) (get_or items k 0) (behind i j 0 less second) (behind j k 0 more third) (sym (mapped i first) ∙ ends ∙ mapped k third)
            ∙ sym (mapped i first)

-- what stands at numbers is among the statements
pub from-order : {A : Type 0} (sets : List (NumberedSet A)) (numbers : List ℕ) (x : NumberedSet A) → Contains (sets_at sets numbers) x → Contains sets x
from-order sets [] x c = absurd (omega (arith, c.1))
from-order {A} sets (n ∷ numbers) x c = by (slice_get sets n) refl (from-order sets numbers x) c
  where
    by : (o : Option (NumberedSet A)) → slice_get sets n ≡ o → (Contains (sets_at sets numbers) x → Contains sets x) → Contains (cons_option o (sets_at sets numbers)) x → Contains sets x
    by None at others d = others d
    by (Some s) at others d = elim (contains-cases s (sets_at sets numbers) x d) [
      | inl same ↦ (n, slice_get_within sets n x (at ∙ ap Some same), get_or_from_slice_get sets n x x (at ∙ ap Some same))
      | inr more ↦ others more
    ]

-- The statement at a place of the order is that at its number.
pub at-place : {A : Type 0} (sets : List (NumberedSet A)) (numbers : List ℕ) (i : ℕ) → AllByRecursion (λ n. n < length sets) numbers → slice_get (sets_at sets numbers) i ≡ option_and_then (slice_get sets) (slice_get numbers i)
at-place sets [] i within = refl
at-place {A} sets (n ∷ numbers) i within = by (slice_get sets n) refl (λ k. at-place sets numbers k within.1) i
  where
    by : (o : Option (NumberedSet A)) → slice_get sets n ≡ o → ((k : ℕ) → slice_get (sets_at sets numbers) k ≡ option_and_then (slice_get sets) (slice_get numbers k)) → (k : ℕ) → slice_get (cons_option (slice_get sets n) (sets_at sets numbers)) k ≡ option_and_then (slice_get sets) (slice_get (n ∷ numbers) k)
    by None at others k = absurd (none-there sets n at within.0)
    by (Some s) at others zero = ap (λ o. slice_get (cons_option o (sets_at sets numbers)) zero) at ∙ sym at
    by (Some s) at others (suc k) = ap (λ o. slice_get (cons_option o (sets_at sets numbers)) (suc k)) at ∙ others k

-- no statements, in order
pub none-in-order : {A : Type 0} (sets : List (NumberedSet A)) → length sets ≡ 0 → IsSetOrder sets []
none-in-order sets none = record {
  all = λ n low. absurd (omega (arith, low, none));
  within = λ k d low. absurd (omega (arith, low));
  once = λ i j d less low same. absurd (omega (arith, low));
  in_order = λ i j s t le low at then m. absurd (omega (arith, low));
  together = λ i j k less more low ends. absurd (omega (arith, low));
}

pub at-length : {A : Type 0} (sets : List (NumberedSet A)) (numbers : List ℕ) → AllByRecursion (λ n. n < length sets) numbers → length (sets_at sets numbers) ≡ length numbers
at-length sets [] within = refl
at-length {A} sets (n ∷ numbers) within = by (slice_get sets n) refl (at-length sets numbers within.1)
  where
    by : (o : Option (NumberedSet A)) → slice_get sets n ≡ o → length (sets_at sets numbers) ≡ length numbers → length (cons_option o (sets_at sets numbers)) ≡ suc (length numbers)
    by None at others = absurd (none-there sets n at within.0)
    by (Some s) at others = ap suc others
