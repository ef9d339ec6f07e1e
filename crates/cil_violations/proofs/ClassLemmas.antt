-- The classes in which two rules share a permission.
use Rattle.cil_violations.proofs.Common.{◌≡◌, ◌⊎◌, ◌∙◌, inl, inr, true, ℕ, ◌<◌, List, [], ◌∷◌, length, map, Some, slice_get, Contains, refl, sym, ap, subst, arith, nat_cmp, nat_cmp_total, AnyByRecursion, any_from_map, contains_from, contains_to, ClassPermission, NumberedRule, given_in, AreInOrder, permission_cmp, AreClasses, IsOrdered, IsSearch, IsStrictlySortedBy, Search, classes_of, hits, names_in, of_class, permissions_at, rules_in, set_at, share, shared, tests_of}
use Rattle.cil_resolve.specs.declared.numbered.NumberedPermissions.{NumberedPermissions}
use Rattle.cil_resolve.specs.declared.numbered.ResolvedPermissions.TheVariants as permits
use Rattle.cil_specs.proofs.ViolationLemmas.{one-sorted}
use Rattle.cil_violations.proofs.FoundLemmas.{hit-from}
use Rattle.cil_violations.proofs.HitLemmas.{hits-hold}
use Rattle.cil_violations.proofs.MeaningLemmas.{class-shared, given-low, of-set-at, same-set, share-class, shared-from, shared-to, witness}
use Rattle.cil_violations.proofs.MetLemmas.{alone-is, alone-there}
use Rattle.cil_violations.proofs.OrderLemmas.{hits-ascend}
use Rattle.cil_violations.proofs.PermissionLemmas.{permission-total}
use Rattle.cil_violations.proofs.ShareLemmas.{share-from}
use Rattle.cil_violations.specs.declared.known.SharedClasses.{SharedClasses}

module _ {A : Type 0} (s : Search A) (is : IsSearch s) (never allowed : ℕ) (low : never < length (rules_in s)) where
  -- those of the permissions that both give, in order
  pub classes-are : (first second : List ClassPermission)
      → ((g : ClassPermission) → Contains first g → Contains second g → Contains (permissions_at s never) g × Contains (permissions_at s allowed) g)
      → ((g : ClassPermission) → Contains (permissions_at s never) g → Contains (permissions_at s allowed) g → Contains first g × Contains second g)
      → (list : List ℕ) → IsOrdered nat_cmp (map (λ g. g.class) (shared first second)) list → list ≡ classes_of s never allowed
  classes-are first second into out list ordered =
      one-sorted nat_cmp nat_cmp_total list (classes_of s never allowed) ordered.rising (hits-ascend ((tests_of s).the_class never allowed) (names_in s) 0) to back
    where
      to : (c : ℕ) → AnyByRecursion (λ x. x ≡ c) list → AnyByRecursion (λ x. x ≡ c) (classes_of s never allowed)
      to c there =
          let (g, here, also, same) = shared-from (λ (x : ClassPermission). x.class) first second c ((ordered.same c).0 (contains_from list c there)) in
          let (one, other) = into g here also in
          let below = subst (λ n. n < names_in s) (sym same) (given-low s.resolved.now s.permissions.now.0 is.permissions never low g one).0 in
          hit-from ((tests_of s).the_class never allowed) (λ x. x ≡ c) (names_in s) 0 c (omega arith) (omega (arith, below))
          (share-class c (permissions_at s never) (permissions_at s allowed) g (sym same) one other) refl

      back : (c : ℕ) → AnyByRecursion (λ x. x ≡ c) (classes_of s never allowed) → AnyByRecursion (λ x. x ≡ c) list
      back c there =
          let holds = (hits-hold ((tests_of s).the_class never allowed) (names_in s) 0 c there).2 in
          let (g, one, other, same) = class-shared c (permissions_at s never) (permissions_at s allowed) holds in
          let (here, also) = out g one other in
          contains_to list c
          ((ordered.same c).1 (subst (Contains (map (λ g. g.class) (shared first second))) same (shared-to (λ (x : ClassPermission). x.class) first second g here also)))

  -- those that the permissions of the two rules share, taken in either order
  pub classes-either : (first second : List ClassPermission) → first ≡ permissions_at s never → second ≡ permissions_at s allowed → (list : List ℕ)
      → IsOrdered nat_cmp (map (λ g. g.class) (shared first second)) list ⊎ IsOrdered nat_cmp (map (λ g. g.class) (shared second first)) list → list ≡ classes_of s never allowed
  classes-either first second first_is second_is list (inl ordered) =
      classes-are first second (λ g here there. (subst (λ l. Contains l g) first_is here, subst (λ l. Contains l g) second_is there))
      (λ g here there. (subst (λ l. Contains l g) (sym first_is) here, subst (λ l. Contains l g) (sym second_is) there)) list ordered
  classes-either first second first_is second_is list (inr ordered) =
      classes-are second first (λ g here there. (subst (λ l. Contains l g) first_is there, subst (λ l. Contains l g) second_is here))
      (λ g here there. (subst (λ l. Contains l g) (sym second_is) there, subst (λ l. Contains l g) (sym first_is) here)) list ordered

-- where all that two lists share is of one class, that is the only one
module _ (c : ℕ) (first second : List ClassPermission)
    (all : (g : ClassPermission) → Contains first g → Contains second g → g.class ≡ c) where
  one-class : share first second ≡ true → IsOrdered nat_cmp (map (λ g. g.class) (shared first second)) (c ∷ [])
  unfolding IsStrictlySortedBy
  one-class some = record {
    rising = (tt, tt);
    same = λ n. (
      λ there.
          let (g, here, also) = share-from first second some in
          subst (Contains (map (λ g. g.class) (shared first second))) (all g here also ∙ alone-is c n there)
          (shared-to (λ (x : ClassPermission). x.class) first second g here also),
      λ there.
          let (g, here, also, same) = shared-from (λ (x : ClassPermission). x.class) first second n there in
          alone-there c n (sym (same ∙ all g here also)),
    );
  }

-- what is given of a class is of it
given-class : {A : Type 0} (p : NumberedPermissions A) (g : ClassPermission)
    → Contains (given_in (permits.OfClass p)) g → g.class ≡ p.class
given-class p g there =
    let one : ℕ → ClassPermission = λ n. record { class = p.class; permission = n } in
    let (n, here, same) =
    witness (λ n. one n ≡ g) p.given
    (any_from_map one (λ x. x ≡ g) p.given (contains_to (given_in (permits.OfClass p)) g there)) in
    ap (λ (x : ClassPermission). x.class) (sym same)

module _ {A : Type 0} (s : Search A) (is : IsSearch s) where
  abbrev gives : ℕ → List ClassPermission
  gives = permissions_at s

  -- a rule of a class gives permissions of it alone
  given-of-class : (i : ℕ) (rule : NumberedRule A) → slice_get (rules_in s) i ≡ Some rule
      → (p : NumberedPermissions A) → rule.permissions ≡ permits.OfClass p
      → (g : ClassPermission) → Contains (gives i) g → g.class ≡ p.class
  given-of-class i rule at p of g there =
      given-class p g (subst (λ q. Contains (given_in q) g) of (((is.permissions.each i rule at).same g).0 there))

  module _ (never allowed : ℕ) (low : never < length (rules_in s)) (shares : share (gives never) (gives allowed) ≡ true)
      (rule : NumberedRule A) (p : NumberedPermissions A) (of : rule.permissions ≡ permits.OfClass p) where
    alone : ((g : ClassPermission) → Contains (gives never) g → Contains (gives allowed) g → g.class ≡ p.class)
        → classes_of s never allowed ≡ p.class ∷ []
    alone all =
        sym (classes-are s is never allowed low (gives never) (gives allowed) (λ g here there. (here, there))
        (λ g here there. (here, there)) (p.class ∷ []) (one-class p.class (gives never) (gives allowed) all shares))

    -- where one of two rules is a rule of a class they share permissions of it alone
    pub alone-first : slice_get (rules_in s) never ≡ Some rule → classes_of s never allowed ≡ p.class ∷ []
    alone-first at = alone (λ g here there. given-of-class never rule at p of g here)

    pub alone-second : slice_get (rules_in s) allowed ≡ Some rule → classes_of s never allowed ≡ p.class ∷ []
    alone-second at = alone (λ g here there. given-of-class allowed rule at p of g there)

  -- rules of one set give the same list
  same-list : (i j set : ℕ) → set_at (rules_in s) i ≡ Some set → set_at (rules_in s) j ≡ Some set → gives i ≡ gives j
  same-list i j set i_is j_is =
      one-sorted permission_cmp permission-total (gives i) (gives j) (rising i i_is) (rising j j_is)
      (all-in i j i_is j_is) (all-in j i j_is i_is)
    where
      rising : (k : ℕ) → set_at (rules_in s) k ≡ Some set → AreInOrder (gives k)
      rising k k_is = let (rule, at, of) = of-set-at (rules_in s) k set k_is in (is.permissions.each k rule at).rising

      all-in : (k m : ℕ) → set_at (rules_in s) k ≡ Some set → set_at (rules_in s) m ≡ Some set → (g : ClassPermission)
          → AnyByRecursion (λ x. x ≡ g) (gives k) → AnyByRecursion (λ x. x ≡ g) (gives m)
      all-in k m k_is m_is g there =
          contains_to (gives m) g
          (same-set s.resolved.now s.permissions.now.0 is.permissions k m set k_is m_is g (contains_from (gives k) g there))

  -- so all rules of two sets share permissions of the same classes
  pub are-classes : (never allowed : ℕ) (known : SharedClasses A) → set_at (rules_in s) never ≡ Some known.never
      → set_at (rules_in s) allowed ≡ Some known.allowed → known.classes.items ≡ classes_of s never allowed
      → AreClasses s known
  are-classes never allowed known never_is allowed_is same i j i_is j_is =
      let one = same-list never i known.never never_is i_is in
      let other = same-list allowed j known.allowed allowed_is j_is in
      same ∙ (λ k. hits (λ c. share (of_class c (one k)) (of_class c (other k))) 0 (names_in s))
