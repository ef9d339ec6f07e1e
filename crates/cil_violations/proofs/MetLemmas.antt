-- The allow rules that a rule meets.
use Rattle.cil_violations.proofs.Common.{◌≡◌, ◌⊎◌, ◌↔◌, ◌∙◌, inl, inr, ℕ, ◌+◌, ◌-◌, ◌<◌, ◌≤◌, ◌&&◌, ◌||◌, Bool, true, false, IsTrue, List, [], ◌∷◌, ◌++◌, length, get_or, get_or_default, take, Option, Some, None, slice_get, Contains, refl, sym, ap, subst, arith, true≢false, nat_cmp, nat_cmp_total, IsStrictlySortedBy, AnyByRecursion, any-filter, any_from_filter, any-flat_map, any_from_flat_map, any_weaker, contains_to, contains_from, and_parts, and_from, eqb-true, eq-eqb, none-some, same_Some, slice_get_within, filter, flat_map, list_any, take_all, IsOrdered, NumberedRule, ClassPermission, gives_class, share, AreHeads, AreHeadsOf, AreOfSet, DoAgree, IsSearch, Search, hits, is_allow, is_allow_of_set, is_kind, is_of_set, is_set_rule, are_of_set, met_in, permissions_at, rules_in, rules_of_set, set_at, stood_by, stood_by_at, stood_for}
use Rattle.std.specs.Option.{is_some}
use Rattle.std.proofs.lemmas.List.{take_more}
use Rattle.std.proofs.lemmas.List.Kept.{IsStrictlySortedBy-filter}
use Rattle.cil_specs.proofs.ViolationLemmas.{one-sorted}
use Rattle.cil_resolve.specs.declared.numbered.ResolvedPermissions.{ResolvedPermissions}
use Rattle.cil_resolve.specs.declared.numbered.ResolvedPermissions.TheVariants as permits
use Rattle.cil_violations.proofs.FoundLemmas.{hit-from}
use Rattle.cil_violations.proofs.HitLemmas.{hits-hold}
use Rattle.cil_violations.proofs.IndexLemmas.{gives-to, set-allows, set-rule, there-at}
use Rattle.cil_violations.proofs.MeaningLemmas.{agree as rules-agree, same-set, witness}
use Rattle.cil_violations.proofs.OrderLemmas.{hits-ascend}
use Rattle.cil_violations.proofs.ShareLemmas.{share-from, share-to}
use Rattle.cil_violations.proofs.TestLemmas.{if-at, is-there}

-- ---- lists

append-cases : {X : Type 0} (xs ys : List X) (x : X) → AnyByRecursion (λ y. y ≡ x) (xs ++ ys) → AnyByRecursion (λ y. y ≡ x) xs ⊎ AnyByRecursion (λ y. y ≡ x) ys
append-cases [] ys x there = inr there
append-cases (z ∷ xs) ys x (inl same) = inl (inl same)
append-cases (z ∷ xs) ys x (inr there) = elim (append-cases xs ys x there) [
  | inl here ↦ inl (inr here)
  | inr later ↦ inr later
]

append-first : {X : Type 0} (xs ys : List X) (x : X) → AnyByRecursion (λ y. y ≡ x) xs → AnyByRecursion (λ y. y ≡ x) (xs ++ ys)
append-first [] ys x none = absurd none
append-first (z ∷ xs) ys x (inl same) = inl same
append-first (z ∷ xs) ys x (inr there) = inr (append-first xs ys x there)

append-second : {X : Type 0} (xs ys : List X) (x : X) → AnyByRecursion (λ y. y ≡ x) ys → AnyByRecursion (λ y. y ≡ x) (xs ++ ys)
append-second [] ys x there = there
append-second (z ∷ xs) ys x there = inr (append-second xs ys x there)

-- what is in two lists
pub in-both : {X : Type 0} (xs ys : List X) (x : X) → Contains (xs ++ ys) x ↔ (Contains xs x ⊎ Contains ys x)
in-both xs ys x = (
  λ there. elim (append-cases xs ys x (contains_to (xs ++ ys) x there)) [
    | inl here ↦ inl (contains_from xs x here)
    | inr later ↦ inr (contains_from ys x later)
  ],
  λ either. elim either [
    | inl here ↦ contains_from (xs ++ ys) x (append-first xs ys x (contains_to xs x here))
    | inr later ↦ contains_from (xs ++ ys) x (append-second xs ys x (contains_to ys x later))
  ],
)

pub alone-is : {X : Type 0} (y x : X) → Contains (y ∷ []) x → y ≡ x
alone-is y x there = by (contains_to (y ∷ []) x there)
  where
    by : (y ≡ x) ⊎ ⊥ → y ≡ x
    by (inl same) = same
    by (inr none) = absurd none

pub alone-there : {X : Type 0} (y x : X) → y ≡ x → Contains (y ∷ []) x
alone-there y x same = contains_from (y ∷ []) x (inl same)

-- ---- the heads of the classes of some permissions, gathered

-- those of the first permissions
pub record AreGathered (heads : ℕ → List ℕ) (given : List ClassPermission) (k : ℕ) (last : Option ℕ) (several : Bool) (list : List ℕ) : Type 0 where
  pub last_is : (c : ℕ) → last ≡ Some c → (g : ClassPermission) × Contains (take k given) g × (g.class ≡ c)
  pub first_is : last ≡ None → list ≡ []
  pub rising : several ≡ false → IsStrictlySortedBy nat_cmp list
  pub same : (h : ℕ) → Contains list h ↔ ((g : ClassPermission) × Contains (take k given) g × Contains (heads g.class) h)

none-rise : IsStrictlySortedBy nat_cmp []
unfolding IsStrictlySortedBy
none-rise = tt

pub gathered-none : (heads : ℕ → List ℕ) (given : List ClassPermission) (list : List ℕ) → list ≡ [] → AreGathered heads given 0 None false list
gathered-none heads given list none = record {
  last_is = λ c is. absurd (none-some c is);
  first_is = λ is. none;
  rising = λ is. subst (IsStrictlySortedBy nat_cmp) (sym none) none-rise;
  same = λ h. (
    λ there. absurd (contains_to [] h (subst (λ l. Contains l h) none there)),
    λ some. absurd (contains_to [] some.0 some.1),
  );
}

module _ (heads : ℕ → List ℕ) (given : List ClassPermission) (k : ℕ) (d : ClassPermission) (within : k < length given) where
  abbrev one : ClassPermission
  one = get_or given k d

  more : take (k + 1) given ≡ take k given ++ one ∷ []
  more = take_more given k d within

  in-more : (g : ClassPermission) → Contains (take (k + 1) given) g → Contains (take k given) g ⊎ (one ≡ g)
  in-more g there = elim ((in-both (take k given) (one ∷ []) g).0 (subst (λ l. Contains l g) more there)) [
    | inl here ↦ inl here
    | inr last ↦ inr (alone-is one g last)
  ]

  in-front : (g : ClassPermission) → Contains (take k given) g → Contains (take (k + 1) given) g
  in-front g there = subst (λ l. Contains l g) (sym more) ((in-both (take k given) (one ∷ []) g).1 (inl there))

  at-end : Contains (take (k + 1) given) one
  at-end = subst (λ l. Contains l one) (sym more) ((in-both (take k given) (one ∷ []) one).1 (inr (alone-there one one refl)))

  -- those of a class more
  pub gathered-more : (last : Option ℕ) (several : Bool) (list new : List ℕ) → ((c : ℕ) → IsStrictlySortedBy nat_cmp (heads c)) → new ≡ list ++ heads one.class
      → AreGathered heads given k last several list → AreGathered heads given (k + 1) (Some one.class) (is_some last) new
  gathered-more last several list new each new_is are = record {
    last_is = λ c is. (one, at-end, same_class c is);
    first_is = λ is. absurd (none-some one.class (sym is));
    rising = λ none. subst (IsStrictlySortedBy nat_cmp) (sym (new_is ∙ ap (λ l. l ++ heads one.class) (are.first_is (nothing last none)))) (each one.class);
    same = λ h. (
      λ there. elim ((in-both list (heads one.class) h).0 (subst (λ l. Contains l h) new_is there)) [
        | inl here ↦ let (g, front, at) = (are.same h).0 here in (g, in-front g front, at)
        | inr last ↦ (one, at-end, last)
      ],
      λ some. subst (λ l. Contains l h) (sym new_is) ((in-both list (heads one.class) h).1 (by h some)),
    );
  }
    where
      same_class : (c : ℕ) → Some one.class ≡ Some c → one.class ≡ c
      same_class c is = cc

      nothing : (o : Option ℕ) → is_some o ≡ false → o ≡ None
      nothing None is = refl
      nothing (Some x) is = absurd (true≢false is)

      by : (h : ℕ) → (g : ClassPermission) × Contains (take (k + 1) given) g × Contains (heads g.class) h → Contains list h ⊎ Contains (heads one.class) h
      by h (g, there, at) = elim (in-more g there) [
        | inl front ↦ inl ((are.same h).1 (g, front, at))
        | inr same ↦ inr (subst (λ (x : ClassPermission). Contains (heads x.class) h) (sym same) at)
      ]

  -- a permission of a class that is gathered
  pub gathered-same : (last : Option ℕ) (several : Bool) (list : List ℕ) → last ≡ Some one.class → AreGathered heads given k last several list → AreGathered heads given (k + 1) last several list
  gathered-same last several list is are = record {
    last_is = λ c some. let (g, front, class_is) = are.last_is c some in (g, in-front g front, class_is);
    first_is = are.first_is;
    rising = are.rising;
    same = λ h. (
      λ there. let (g, front, at) = (are.same h).0 there in (g, in-front g front, at),
      λ some. (are.same h).1 (by h some),
    );
  }
    where
      by : (h : ℕ) → (g : ClassPermission) × Contains (take (k + 1) given) g × Contains (heads g.class) h → (g : ClassPermission) × Contains (take k given) g × Contains (heads g.class) h
      by h (g, there, at) = elim (in-more g there) [
        | inl front ↦ (g, front, at)
        | inr same ↦
            let (other, front, class_is) = are.last_is one.class is in
            (other, front, subst (λ c. Contains (heads c) h) (ap (λ (x : ClassPermission). x.class) (sym same) ∙ sym class_is) at)
      ]

-- once all are gone over
module _ (heads : ℕ → List ℕ) (given : List ClassPermission) (k : ℕ) (past : length given ≤ k) (last : Option ℕ) (several : Bool) (list : List ℕ) (are : AreGathered heads given k last several list) where
  all-same : (h : ℕ) → Contains list h ↔ ((g : ClassPermission) × Contains given g × Contains (heads g.class) h)
  all-same h = subst (λ l. Contains list h ↔ ((g : ClassPermission) × Contains l g × Contains (heads g.class) h)) (take_all k given past) (are.same h)

  pub gathered-all : several ≡ false → AreHeadsOf heads given list
  gathered-all one = record { rising = are.rising one; same = all-same }

  pub gathered-ordered : (ordered : List ℕ) → IsOrdered nat_cmp list ordered → AreHeadsOf heads given ordered
  gathered-ordered ordered is = record {
    rising = is.rising;
    same = λ h. (
      λ there. (all-same h).0 ((is.same h).0 there),
      λ some. (is.same h).1 ((all-same h).1 some),
    );
  }

-- ---- the rules for which they stand

-- where none is one of a set each stands for itself
pub themselves : {A : Type 0} (rules : List (NumberedRule A)) (hs : List ℕ) → ((h : ℕ) → AnyByRecursion (λ x. x ≡ h) hs → h < length rules) → list_any (is_set_rule rules) hs ≡ false → flat_map (stood_for rules) hs ≡ hs
themselves rules [] within none = refl
themselves rules (h ∷ hs) within none =
    let parts = neither (is_set_rule rules h) (list_any (is_set_rule rules) hs) none in
    (λ i. one i ++ themselves rules hs (λ k there. within k (inr there)) parts.1 i)
  where
    neither : (a b : Bool) → (a || b) ≡ false → (a ≡ false) × (b ≡ false)
    neither true b is = absurd (true≢false is)
    neither false b is = (refl, is)

    alone : (p : ResolvedPermissions _) → are_of_set p ≡ false → stood_by rules h p ≡ h ∷ []
    alone (permits.OfClass p) is = refl
    alone (permits.OfSet s) is = absurd (true≢false is)

    one : stood_for rules h ≡ h ∷ []
    one =
        let (r, at) = there-at rules h (within h (inl refl)) in
        ap (stood_by_at rules h) at ∙ alone r.permissions (sym (if-at (λ x. are_of_set x.permissions) (slice_get rules h) r at) ∙ (neither (is_set_rule rules h) (list_any (is_set_rule rules) hs) none).0)

module _ {A : Type 0} (s : Search A) (is : IsSearch s) (agree : DoAgree (rules_in s) s.permissions.now.0) (never : ℕ) (heads : ℕ → List ℕ) (are : AreHeads (rules_in s) s.permissions.now.0 0 heads)
    (hs : List ℕ) (of : AreHeadsOf heads (permissions_at s never) hs) where
  abbrev rules : List (NumberedRule A)
  rules = rules_in s

  abbrev shares : ℕ → Bool
  shares h = share (permissions_at s never) (permissions_at s h)

  -- the heads that share a permission
  abbrev pub sharing : List ℕ
  sharing = filter shares hs

  sharing-to : (h : ℕ) → Contains hs h → shares h ≡ true → AnyByRecursion (λ x. x ≡ h) sharing
  sharing-to h there told = any-filter shares (λ x. x ≡ h) hs (any_weaker (λ x. x ≡ h) (λ x. (x ≡ h) × IsTrue (shares x)) (λ x e. (e, ap shares e ∙ told)) hs (contains_to hs h there))

  sharing-from : (h : ℕ) → AnyByRecursion (λ x. x ≡ h) sharing → Contains hs h × (shares h ≡ true)
  sharing-from h some =
      let (x, there, both) = witness (λ x. (x ≡ h) × IsTrue (shares x)) hs (any_from_filter shares (λ x. x ≡ h) hs some) in
      (subst (Contains hs) both.0 there, sym (ap shares both.0) ∙ both.1)

  -- a head is an allow rule
  pub head-allows : (h : ℕ) → Contains hs h → is_allow rules h ≡ true
  head-allows h there =
      let (g, given, at) = (of.same h).0 there in
      (and_parts (is_allow rules h) (gives_class (permissions_at s h) g.class) (are.sound g.class h at)).0

  head-within : (h : ℕ) → Contains hs h → h < length rules
  head-within h there = let (r, at, kind) = is-there (is_kind 0) (slice_get rules h) (head-allows h there) in slice_get_within rules h r at

  -- what one shares another rule of its set shares
  set-shares : (h j : ℕ) → AreOfSet rules h j → shares h ≡ true → shares j ≡ true
  set-shares h j of_set told =
      let (g, here, there) = share-from (permissions_at s never) (permissions_at s h) told in
      share-to (permissions_at s never) (permissions_at s j) g here (agree h j of_set g there)

  abbrev pair : ℕ → Bool
  pair j = is_allow rules j && shares j

  -- for whom a head stands
  stood-from : (h : ℕ) (r : NumberedRule A) → slice_get rules h ≡ Some r → is_kind 0 r ≡ true → (j : ℕ) → Contains (stood_by rules h r.permissions) j → (h ≡ j) ⊎ AreOfSet rules h j
  stood-from h r at kind j there = by r.permissions refl there
    where
      by : (p : ResolvedPermissions A) → r.permissions ≡ p → Contains (stood_by rules h p) j → (h ≡ j) ⊎ AreOfSet rules h j
      by (permits.OfClass p) same here = inl (alone-is h j here)
      by (permits.OfSet set) same here = inr (
        set.set,
        if-at (λ x. is_kind 0 x && is_of_set set.set x.permissions) (slice_get rules h) r at ∙ and_from (is_kind 0 r) (is_of_set set.set r.permissions) kind (ap (is_of_set set.set) same ∙ eq-eqb set.set set.set refl),
        (hits-hold (is_allow_of_set rules set.set) (length rules - 0) 0 j (contains_to (rules_of_set rules 0 set.set) j here)).2,
      )

  stood-to : (h : ℕ) (r : NumberedRule A) → slice_get rules h ≡ Some r → is_kind 0 r ≡ true → (j : ℕ) → (h ≡ j) ⊎ AreOfSet rules h j → Contains (stood_by rules h r.permissions) j
  stood-to h r at kind j stands = by r.permissions refl stands
    where
      in-set : (n : ℕ) → is_allow_of_set rules n j ≡ true → Contains (rules_of_set rules 0 n) j
      in-set n j_is =
          let (x, there, kind_too, of_set) = set-rule rules n j j_is in
          let low = slice_get_within rules j x there in
          contains_from (rules_of_set rules 0 n) j (hit-from (is_allow_of_set rules n) (λ x. x ≡ j) (length rules - 0) 0 j (omega arith) (omega (arith, low)) j_is refl)

      by : (p : ResolvedPermissions A) → r.permissions ≡ p → (h ≡ j) ⊎ AreOfSet rules h j → Contains (stood_by rules h p) j
      by (permits.OfClass p) same (inl here) = alone-there h j here
      by (permits.OfClass p) same (inr (n, h_is, j_is)) =
          let (x, there, kind_too, of_set) = set-rule rules n h h_is in
          absurd (true≢false (sym of_set ∙ ap (λ (y : NumberedRule A). is_of_set n y.permissions) (same_Some x r (sym there ∙ at)) ∙ ap (is_of_set n) same))
      by (permits.OfSet set) same (inl here) =
          in-set set.set
          (subst (λ k. is_allow_of_set rules set.set k ≡ true) here
          (if-at (λ x. is_kind 0 x && is_of_set set.set x.permissions) (slice_get rules h) r at ∙ and_from (is_kind 0 r) (is_of_set set.set r.permissions) kind (ap (is_of_set set.set) same ∙ eq-eqb set.set set.set refl)))
      by (permits.OfSet set) same (inr (n, h_is, j_is)) =
          let (x, there, kind_too, of_set) = set-rule rules n h h_is in
          let here : is_of_set n r.permissions ≡ true = sym (ap (λ (y : NumberedRule A). is_of_set n y.permissions) (same_Some x r (sym there ∙ at))) ∙ of_set in
          let number : set.set ≡ n = eqb-true set.set n (sym (ap (is_of_set n) same) ∙ here) in
          in-set set.set (subst (λ m. is_allow_of_set rules m j ≡ true) (sym number) j_is)

  -- those for whom the heads that share stand are those that are met
  pub met-to : (j : ℕ) → AnyByRecursion (λ x. x ≡ j) (flat_map (stood_for rules) sharing) → AnyByRecursion (λ x. x ≡ j) (met_in s never)
  met-to j some =
      let (h, at_h, stood) = witness (λ h. AnyByRecursion (λ x. x ≡ j) (stood_for rules h)) sharing (any_from_flat_map (stood_for rules) (λ x. x ≡ j) sharing some) in
      let (there, told) = sharing-from h (contains_to sharing h at_h) in
      let (r, at, kind) = is-there (is_kind 0) (slice_get rules h) (head-allows h there) in
      let stands = stood-from h r at kind j (contains_from (stood_by rules h r.permissions) j (subst (λ o. AnyByRecursion (λ x. x ≡ j) (stood_by_at rules h o)) at stood)) in
      by h there told stands
    where
      hit : is_allow rules j ≡ true → shares j ≡ true → AnyByRecursion (λ x. x ≡ j) (met_in s never)
      hit allows told =
          let (r, at, kind) = is-there (is_kind 0) (slice_get rules j) allows in
          let low = slice_get_within rules j r at in
          hit-from pair (λ x. x ≡ j) (length rules) 0 j (omega arith) (omega (arith, low)) (and_from (is_allow rules j) (shares j) allows told) refl

      by : (h : ℕ) → Contains hs h → shares h ≡ true → (h ≡ j) ⊎ AreOfSet rules h j → AnyByRecursion (λ x. x ≡ j) (met_in s never)
      by h there told (inl same) = hit (subst (λ k. is_allow rules k ≡ true) same (head-allows h there)) (subst (λ k. shares k ≡ true) same told)
      by h there told (inr of_set) = hit (set-allows rules of_set.0 j of_set.2) (set-shares h j of_set told)

  pub met-from : (j : ℕ) → AnyByRecursion (λ x. x ≡ j) (met_in s never) → AnyByRecursion (λ x. x ≡ j) (flat_map (stood_for rules) sharing)
  met-from j some =
      let (low, high, both) = hits-hold pair (length rules) 0 j some in
      let parts = and_parts (is_allow rules j) (shares j) both in
      let (g, here, there) = share-from (permissions_at s never) (permissions_at s j) parts.1 in
      let (h, at_h, stands) = are.complete g.class j (omega arith) (and_from (is_allow rules j) (gives_class (permissions_at s j) g.class) parts.0 (gives-to (permissions_at s j) g.class g there refl)) in
      let in_heads = (of.same h).1 (g, here, at_h) in
      let (r, at, kind) = is-there (is_kind 0) (slice_get rules h) (head-allows h in_heads) in
      let stood = contains_to (stood_by rules h r.permissions) j (stood-to h r at kind j stands) in
      any-flat_map (stood_for rules) (λ x. x ≡ j) sharing
      (any_weaker (λ x. x ≡ h) (λ x. AnyByRecursion (λ y. y ≡ j) (stood_for rules x))
      (λ x e. subst (λ k. AnyByRecursion (λ y. y ≡ j) (stood_for rules k)) (sym e) (subst (λ o. AnyByRecursion (λ y. y ≡ j) (stood_by_at rules h o)) (sym at) stood))
      sharing (sharing-to h in_heads (told h stands parts.1)))
    where
      told : (h : ℕ) → (h ≡ j) ⊎ AreOfSet rules h j → shares j ≡ true → shares h ≡ true
      told h (inl same) shared = subst (λ k. shares k ≡ true) (sym same) shared
      told h (inr (n, h_is, j_is)) shared = set-shares j h (n, j_is, h_is) shared

  -- so they are, once they are in order
  pub met-all : (list : List ℕ) → IsStrictlySortedBy nat_cmp list → ((j : ℕ) → Contains list j ↔ Contains (flat_map (stood_for rules) sharing) j) → list ≡ met_in s never
  met-all list rising same =
      one-sorted nat_cmp nat_cmp_total list (met_in s never) rising (hits-ascend pair (length rules) 0)
      (λ j there. met-to j (contains_to (flat_map (stood_for rules) sharing) j ((same j).0 (contains_from list j there))))
      (λ j there. contains_to list j ((same j).1 (contains_from (flat_map (stood_for rules) sharing) j (met-from j there))))

  -- and where none is one of a set they are so from the start
  pub met-plain : list_any (is_set_rule rules) sharing ≡ false → flat_map (stood_for rules) sharing ≡ met_in s never
  met-plain none =
      let plain = themselves rules sharing (λ h there. head-within h (sharing-from h there).0) none in
      met-all (flat_map (stood_for rules) sharing) (subst (IsStrictlySortedBy nat_cmp) (sym plain) (IsStrictlySortedBy-filter nat_cmp shares hs of.rising)) (λ j. (λ h. h, λ h. h))

-- ---- rules of one set

share-same : (first other second : List ClassPermission) → ((g : ClassPermission) → Contains first g → Contains other g) → ((g : ClassPermission) → Contains other g → Contains first g) → share first second ≡ share other second
share-same first other second to back = same-bool (share first second) (share other second) (one first other to) (one other first back)
  where
    one : (xs ys : List ClassPermission) → ((g : ClassPermission) → Contains xs g → Contains ys g) → share xs second ≡ true → share ys second ≡ true
    one xs ys into some = let (g, here, there) = share-from xs second some in share-to ys second g (into g here) there

    same-bool : (a b : Bool) → (a ≡ true → b ≡ true) → (b ≡ true → a ≡ true) → a ≡ b
    same-bool true b there here = sym (there refl)
    same-bool false true there here = here refl
    same-bool false false there here = refl

-- they meet the same rules
pub met-same : {A : Type 0} (s : Search A) → IsSearch s → (i j set : ℕ) → set_at (rules_in s) i ≡ Some set → set_at (rules_in s) j ≡ Some set → met_in s i ≡ met_in s j
met-same s is i j set i_is j_is = λ k. hits (λ m. is_allow (rules_in s) m && same m k) 0 (length (rules_in s))
  where
    same : (m : ℕ) → share (permissions_at s i) (permissions_at s m) ≡ share (permissions_at s j) (permissions_at s m)
    same m =
        share-same (permissions_at s i) (permissions_at s j) (permissions_at s m)
        (same-set s.resolved.now s.permissions.now.0 is.permissions i j set i_is j_is)
        (same-set s.resolved.now s.permissions.now.0 is.permissions j i set j_is i_is)

-- the head at a place of those of a rule is a rule
pub head-within_at : {A : Type 0} (s : Search A) (is : IsSearch s) (never : ℕ) (hs : List ℕ) → AreHeadsOf is.index.holds.heads (permissions_at s never) hs → (given : List ℕ) (k : ℕ) → given ≡ hs → k < length given
    → get_or given k 0 < length (rules_in s)
head-within_at s is never hs of given k are within =
    let h = get_or given k 0 in
    head-within s is (rules-agree s.resolved.now s.permissions.now.0 is.permissions) never is.index.holds.heads is.index.holds.are hs of h (subst (λ l. Contains l h) are (k, within, get_or_default given k h 0 within))
