-- The order of set statements, by names.
use Rattle.cil_resolve.proofs.Common.{◌≡◌, ◌∙◌, inl, inr, ℕ, zero, suc, ◌<◌, ◌≤◌, Bool, true, false, List, [], ◌∷◌, length, map, get_or, Option, Some, None, Contains, bytes_eq, refl, sym, ap, subst, true≢false, arith, cons_option, list_any, Contains-from_any, get_or_from_slice_get, slice_get-get_or, slice_get_within, bytes_eq-Decides, an_attribute, SetStatement, is_the_attribute, mentions, HasNoCircle, IsNextOf, any-contained, contains-cases, contains-first, contains-map, contains-mapped, contains-middle, contains-other, passes-among, Element, «Type», Attribute, NumberedSet, element_of, set_of, names_in, sets_at, AreNamed, AreStraight, DependsThrough, IsNext, IsSetOrder, leaves-mapped, set_expr_in}
use Rattle.std.proofs.Common.{slice_get, eqb-true}
use Rattle.cil_specs.specs.Dependence.{has_set, AreInOrder, AreTheSame}
use Rattle.cil_specs.specs.Sets as sets_by_names
use Rattle.cil_resolve.proofs.RisingNames.{same-number}
use Rattle.cil_resolve.proofs.SetOrderLemmas.{attribute-below, named-below}

-- an element that stands for this attribute
attribute-named : (names : List (List ℕ)) (e : Element) (name : List ℕ) → is_the_attribute name (element_of names e) ≡ true → (b : ℕ) × (e ≡ Attribute b) × (get_or names b [] ≡ name)
attribute-named names («Type» i) name is = absurd (true≢false (sym is))
attribute-named names (Attribute b) name is = (b, refl, sym ((bytes_eq-Decides name (get_or names b [])).0 is))

module _ {A : Type 0} (modules names : List (List ℕ)) (sets : List (NumberedSet A)) where
  pub at-set : (numbers : List ℕ) (t : NumberedSet A) → Contains (sets_at sets numbers) t → (j : ℕ) × (j < length numbers) × (slice_get sets (get_or numbers j 0) ≡ Some t)
  at-set [] t c = absurd (omega (arith, c.1))
  at-set (n ∷ numbers) t c = by (slice_get sets n) refl (at-set numbers t) c
    where
      later : (j : ℕ) × (j < length numbers) × (slice_get sets (get_or numbers j 0) ≡ Some t) → (j : ℕ) × (j < suc (length numbers)) × (slice_get sets (get_or (n ∷ numbers) j 0) ≡ Some t)
      later (j, low, at) = (suc j, omega (arith, low), at)

      by : (o : Option (NumberedSet A)) → slice_get sets n ≡ o → (Contains (sets_at sets numbers) t → (j : ℕ) × (j < length numbers) × (slice_get sets (get_or numbers j 0) ≡ Some t)) → Contains (cons_option o (sets_at sets numbers)) t
          → (j : ℕ) × (j < suc (length numbers)) × (slice_get sets (get_or (n ∷ numbers) j 0) ≡ Some t)
      by None at others c = later (others c)
      by (Some s) at others c = elim (contains-cases s (sets_at sets numbers) t c) [
        | inl same ↦ (0, omega arith, at ∙ ap Some same)
        | inr more ↦ later (others more)
      ]

  set-at : (numbers : List ℕ) (n : ℕ) (t : NumberedSet A) → Contains numbers n → slice_get sets n ≡ Some t → Contains (sets_at sets numbers) t
  set-at [] n t c at = absurd (omega (arith, c.1))
  set-at (m ∷ numbers) n t (zero, low, is) at =
      subst (λ o. Contains (cons_option o (sets_at sets numbers)) t) (sym (ap (slice_get sets) is ∙ at)) (contains-first t (sets_at sets numbers))
  set-at (m ∷ numbers) n t (suc k, low, is) at = by (slice_get sets m) (set-at numbers n t (k, omega (arith, low), is) at)
    where
      by : (o : Option (NumberedSet A)) → Contains (sets_at sets numbers) t → Contains (cons_option o (sets_at sets numbers)) t
      by None c = c
      by (Some s) c = contains-other s (sets_at sets numbers) t c

  there : (n : ℕ) (t : NumberedSet A) → slice_get sets n ≡ Some t → Contains sets t
  there n t at = (n, slice_get_within sets n t at, get_or_from_slice_get sets n t t at)

  found : (t : NumberedSet A) → Contains sets t → (n : ℕ) × (n < length sets) × (slice_get sets n ≡ Some t)
  found t (n, low, is) = (n, low, slice_get-get_or sets n t low ∙ ap Some is)

  -- the same statements
  pub names-the-same : (order : List ℕ) → IsSetOrder sets order → AreTheSame (map (set_of modules names) sets) (map (set_of modules names) (sets_at sets order))
  names-the-same order is x = (onward, back)
    where
      onward : Contains (map (set_of modules names) sets) x → Contains (map (set_of modules names) (sets_at sets order)) x
      onward c =
          let (s, has, same) = contains-mapped (set_of modules names) sets x c in
          let (n, low, at) = found s has in
          subst (Contains (map (set_of modules names) (sets_at sets order))) same
          (contains-map (set_of modules names) (sets_at sets order) s (set-at order n s (Contains-from_any eqb-true n order (is.all n low)) at))

      back : Contains (map (set_of modules names) (sets_at sets order)) x → Contains (map (set_of modules names) sets) x
      back c =
          let (s, has, same) = contains-mapped (set_of modules names) (sets_at sets order) x c in
          let (j, low, at) = at-set order s has in
          subst (Contains (map (set_of modules names) sets)) same (contains-map (set_of modules names) sets s (there (get_or order j 0) s at))

  module _ (named : AreNamed modules names sets) where
    -- an attribute that a statement mentions by name, it names by number
    mentioned : (s : NumberedSet A) (name : List ℕ) → Contains sets s → mentions name (set_of modules names s).expr ≡ true → (b : ℕ) × Contains (names_in s) (Attribute b) × (get_or names b [] ≡ name)
    mentioned s name c m =
        let any = subst (λ l. list_any (is_the_attribute name) l ≡ true) (leaves-mapped (element_of names) (set_expr_in s.expression)) m in
        let one = passes-among (is_the_attribute name) (map (element_of names) (names_in s)) any in
        let (e, has, same) = contains-mapped (element_of names) (names_in s) one.x (subst (λ l. Contains l one.x) (sym one.split) (contains-middle one.before one.x one.after)) in
        let (b, is, at) = attribute-named names e name (subst (λ x. is_the_attribute name x ≡ true) (sym same) one.passes) in
        (b, subst (Contains (names_in s)) is has, at)

    no-set : (n : ℕ) (numbers : List ℕ) (s : NumberedSet A) (name : List ℕ)
        → ((i j : ℕ) (s t : NumberedSet A) → i ≤ j → j < suc (length numbers) → slice_get sets (get_or (n ∷ numbers) i 0) ≡ Some s → slice_get sets (get_or (n ∷ numbers) j 0) ≡ Some t → Contains (names_in s) (Attribute t.attribute) → ⊥)
        → slice_get sets n ≡ Some s → mentions name (set_of modules names s).expr ≡ true → has_set (map (set_of modules names) (s ∷ sets_at sets numbers)) name ≡ false
    no-set n numbers s name stand at m = by (has_set (map (set_of modules names) (s ∷ sets_at sets numbers)) name) refl
      where
        stands : (t : NumberedSet A) → Contains (s ∷ sets_at sets numbers) t → (j : ℕ) × (j < suc (length numbers)) × (slice_get sets (get_or (n ∷ numbers) j 0) ≡ Some t)
        stands t c = at-set (n ∷ numbers) t (subst (λ o. Contains (cons_option o (sets_at sets numbers)) t) (sym at) c)

        none : list_any (λ x. bytes_eq name x.attribute) (map (set_of modules names) (s ∷ sets_at sets numbers)) ≡ true → ⊥
        none any =
            let one = passes-among (λ x. bytes_eq name x.attribute) (map (set_of modules names) (s ∷ sets_at sets numbers)) any in
            let (t, has, same) = contains-mapped (set_of modules names) (s ∷ sets_at sets numbers) one.x (subst (λ l. Contains l one.x) (sym one.split) (contains-middle one.before one.x one.after)) in
            let (j, low, then) = stands t has in
            let (b, in_s, named_so) = mentioned s name (there n s at) m in
            let own : get_or names t.attribute [] ≡ name = ap (λ (x : SetStatement). x.attribute) same ∙ sym ((bytes_eq-Decides name one.x.attribute).0 one.passes) in
            let number : b ≡ t.attribute = same-number names b t.attribute named.rise (named-below (length names) sets s b named.below (there n s at) in_s) (attribute-below (length names) sets t named.below (there (get_or (n ∷ numbers) j 0) t then)) (named_so ∙ sym own) in
            stand 0 j s t (omega arith) low at then (subst (λ k. Contains (names_in s) (Attribute k)) number in_s)

        by : (found : Bool) → has_set (map (set_of modules names) (s ∷ sets_at sets numbers)) name ≡ found → has_set (map (set_of modules names) (s ∷ sets_at sets numbers)) name ≡ false
        by false e = e
        by true e = absurd (none e)

    in-order : (numbers : List ℕ)
        → ((i j : ℕ) (s t : NumberedSet A) → i ≤ j → j < length numbers → slice_get sets (get_or numbers i 0) ≡ Some s → slice_get sets (get_or numbers j 0) ≡ Some t → Contains (names_in s) (Attribute t.attribute) → ⊥)
        → AreInOrder (map (set_of modules names) (sets_at sets numbers))
    in-order [] stand = tt
    in-order (n ∷ numbers) stand = by (slice_get sets n) refl (in-order numbers (λ i j s t le low at then. stand (suc i) (suc j) s t (omega (arith, le)) (omega (arith, low)) at then))
      where
        by : (o : Option (NumberedSet A)) → slice_get sets n ≡ o → AreInOrder (map (set_of modules names) (sets_at sets numbers)) → AreInOrder (map (set_of modules names) (cons_option o (sets_at sets numbers)))
        by None at rest = rest
        by (Some s) at rest = (λ name m. no-set n numbers s name stand at m, rest)

    pub names-in-order : (order : List ℕ) → IsSetOrder sets order → AreInOrder (map (set_of modules names) (sets_at sets order))
    names-in-order order is = in-order order is.in_order

    -- a step by numbers is one by names
    next-named : (a b : ℕ) → IsNext sets a b → IsNextOf (map (set_of modules names) sets) (get_or names a []) (get_or names b [])
    next-named a b next = record {
      s = set_of modules names next.s;
      is_in = contains-map (set_of modules names) sets next.s next.is_in;
      of_attribute = ap (λ n. get_or names n []) next.mentions.0;
      mentioned =
          subst (λ l. list_any (is_the_attribute (get_or names b [])) l ≡ true) (sym (leaves-mapped (element_of names) (set_expr_in next.s.expression)))
          (any-contained (is_the_attribute (get_or names b [])) (map (element_of names) (names_in next.s)) (an_attribute (get_or names b []))
          (contains-map (element_of names) (names_in next.s) (Attribute b) next.mentions.1) ((bytes_eq-Decides (get_or names b []) (get_or names b [])).1 refl));
    }

    through-named : (between : List ℕ) (a b : ℕ) → DependsThrough sets a between b
        → sets_by_names.DependsThrough (map (set_of modules names) sets) (get_or names a []) (map (λ n. get_or names n []) between) (get_or names b [])
    through-named [] a b step = next-named a b step
    through-named (x ∷ between) a b (step, more) = (next-named a x step, through-named between x b more)

    pub numbers-straight : HasNoCircle (map (set_of modules names) sets) → AreStraight sets
    numbers-straight straight a between depends = straight (get_or names a []) (map (λ n. get_or names n []) between, through-named between a a depends)
