-- What permission sets give, set by set.
use Rattle.cil_resolve.proofs.Common.{◌≡◌, ◌≢◌, ◌∙◌, ◌⊎◌, inl, inr, ℕ, zero, suc, ◌<◌, ◌≤◌, ◌==◌, ◌+◌, false, List, [], ◌∷◌, ◌++◌, set, Vec, Result, Ok, Err, map, length, get_or, Contains, Some, arith, refl, sym, ap, subst, if◌then◌else◌, append-nil, eq-eqb, cases_eq, cases_lt, none-some, same_Some, slice_get-get_or, slice_get-map, slice_get_past, slice_get_within, get_or_from_slice_get, length-set, map-append, take, Option, None, flat_map-append, tied_itself, contains-first, contains-map, contains-other, option_map, is_lt, nat_cmp, ordering_reverse, Less, Equal, Greater, IsStrictlySortedBy, AreGathered, ArePutInOrder, AreSetNumbers, GivesSets, IsOrdered, given_to, given_with, set_gives}
use Rattle.std.proofs.Common.{IfNone, IfSome, eqb, ne_eqb, slice_get}
use Rattle.std.specs.Result.{result_ok}
use Rattle.std.specs.List.{dedup}
use Rattle.std.specs.List.Sorted.{IsBinarySearchResult, IsNonDecreasingBy, IsPermutation, IsSearchInRange, IsSorted}
use Rattle.std.specs.Ordering.{ordering_index}
use Rattle.std.specs.Rc.{rc_value}
use Rattle.std.proofs.lemmas.Cmp.{nat_cmp_total, ranked}
use Rattle.std.proofs.lemmas.List.Kept.{Contains-dedup_nat}
use Rattle.std.proofs.lemmas.List.Sorted.{Contains-permutation, searchable_from_sorted}
use Rattle.std.proofs.lemmas.Map.Keys.{IsStrictlyIncreasing-dedup, Less-from_sorted, sorted_from_strictly_increasing}
use Rattle.std.specs.List.Sorted.{IsStrictlyIncreasing}
use Rattle.cil_resolve.specs.declared.given_sets.GivenSets.{GivenSets}
use Rattle.cil_resolve.specs.declared.numbered.NumberedPermissionSet.{NumberedPermissionSet}
use Rattle.cil_resolve.specs.declared.set_permissions.ClassPermission.{ClassPermission}
use Rattle.cil_resolve.specs.declared.set_permissions.SetPermissions.{SetPermissions}
use Rattle.cil_bind.proofs.PositionLemmas.{take-last}
use Rattle.cil_resolve.proofs.StatementLemmas.{contained}

-- the numbers of sets, once they were sorted and rid of repeats
pub set-numbers : {A : Type 0} (statements : List (NumberedPermissionSet A)) (xs ys zs : List ℕ) → xs ≡ map (λ s. s.set) statements → IsPermutation xs ys → IsSorted nat_cmp ys → zs ≡ dedup eqb ys → AreSetNumbers statements zs
set-numbers statements xs ys zs are moved sorted rid = record {
  rising = sorted_from_strictly_increasing zs (subst IsStrictlyIncreasing (sym rid) (IsStrictlyIncreasing-dedup ys sorted));
  all = λ s there. subst (λ l. Contains l s.set) (sym rid)
      (Contains-dedup_nat ys s.set (Contains-permutation xs ys s.set moved (subst (λ l. Contains l s.set) (sym are) (contains-map (λ t. t.set) statements s there))));
}

-- ---- a search

equal-not-less : Equal ≡ Less → ⊥
equal-not-less same = cc

greater-not-equal : Greater ≡ Equal → ⊥
greater-not-equal same = cc

-- in a list in order two places of one number are one
pub one-place : (xs : List ℕ) → IsStrictlySortedBy nat_cmp xs → (i j : ℕ) (x : ℕ) → slice_get xs i ≡ Some x → slice_get xs j ≡ Some x → i ≡ j
one-place xs sorted i j x at too = elim (cases_eq i j) [
  | inl same ↦ same
  | inr apart ↦ elim (cases_lt i j) [
    | inl below ↦ absurd (never i j at too below)
    | inr above ↦ absurd (never j i too at (omega (arith, apart, above)))
  ]
]
  where
    never : (k l : ℕ) → slice_get xs k ≡ Some x → slice_get xs l ≡ Some x → k < l → ⊥
    never k l here there below =
        let one = get_or_from_slice_get xs k x x here in
        let other = get_or_from_slice_get xs l x x there in
        equal-not-less (sym (tied_itself nat_cmp_total x) ∙ sym (λ n. nat_cmp (one n) (other n)) ∙ Less-from_sorted nat_cmp xs k l x sorted below (slice_get_within xs l x there))

module _ (xs : List ℕ) (sorted : IsStrictlySortedBy nat_cmp xs) (x : ℕ) where
  searchable : IsNonDecreasingBy (λ y. ordering_index (nat_cmp y x)) xs
  searchable = searchable_from_sorted nat_cmp_total (λ y. y) xs x (λ k d low high.
      let next : k < k + 1 = omega arith in
      ap is_lt (nat_cmp_total.antisymm (get_or xs (k + 1) d) (get_or xs k d) ∙ ap ordering_reverse (Less-from_sorted nat_cmp xs k (k + 1) d sorted next high)))

  -- Where a search answers a place, the number stands there, and else it isn't in the list.
  pub found-number : (r : Result ℕ ℕ) → IsSearchInRange r (length xs) → IsBinarySearchResult (λ y. nat_cmp y x) xs r → (o : Option ℕ) → o ≡ result_ok r
      → IfSome o (λ place. slice_get xs place ≡ Some x)
  found-number (Ok i) within equal o is = subst (λ a. IfSome a (λ place. slice_get xs place ≡ Some x)) (sym is)
      (slice_get-get_or xs i x within ∙ ap Some (ranked (get_or xs i x) x Equal (sym (equal x))))
  found-number (Err i) within parted o is = subst (λ a. IfSome a (λ place. slice_get xs place ≡ Some x)) (sym is) tt

  pub absent-number : (r : Result ℕ ℕ) → IsSearchInRange r (length xs) → IsBinarySearchResult (λ y. nat_cmp y x) xs r → (o : Option ℕ) → o ≡ result_ok r → IfNone o (Contains xs x → ⊥)
  absent-number (Ok i) within equal o is = subst (λ a. IfNone a (Contains xs x → ⊥)) (sym is) tt
  absent-number (Err i) within parted o is = subst (λ a. IfNone a (Contains xs x → ⊥)) (sym is) absent
    where
      absent : Contains xs x → ⊥
      absent (k, low, same) =
          let own : nat_cmp (get_or xs k x) x ≡ Equal = ap (λ y. nat_cmp y x) same ∙ tied_itself nat_cmp_total x in
          elim (cases_lt k i) [
            | inl below ↦ equal-not-less (sym own ∙ (parted searchable).0 k x (omega arith) below)
            | inr above ↦ greater-not-equal (sym ((parted searchable).1 k x above low) ∙ own)
          ]

-- ---- lists of what statements give

-- what stands at a place of a list of which one item was replaced
pub got-set : {X : Type 0} (xs : List X) (p k : ℕ) (v x : X) → slice_get (set xs p v) k ≡ Some x → ((k ≡ p) × (v ≡ x)) ⊎ ((k ≢ p) × (slice_get xs k ≡ Some x))
got-set [] p k v x is = absurd (none-some x is)
got-set (y ∷ xs) zero zero v x is = inl (refl, same_Some v x is)
got-set (y ∷ xs) zero (suc k) v x is = inr (λ e. omega (arith, e), is)
got-set (y ∷ xs) (suc p) zero v x is = inr (λ e. omega (arith, e), is)
got-set (y ∷ xs) (suc p) (suc k) v x is = elim (got-set xs p k v x is) [
  | inl (same, here) ↦ inl (ap suc same, here)
  | inr (apart, there) ↦ inr (λ e. apart (omega (arith, e)), there)
]

-- empty lists
pub gathered-none : {A : Type 0} (numbers : List ℕ) (lists : List (Vec ClassPermission A)) → length lists ≡ length numbers → ((list : Vec ClassPermission A) → Contains lists list → list.items ≡ [])
    → AreGathered {A = A} [] numbers lists
gathered-none numbers lists long empty = record { long = long; each = λ k n list here at. empty list (contained lists k list at) }

module _ {A : Type 0} (statements : List (NumberedPermissionSet A)) (t : NumberedPermissionSet A) where
  with-one : (n : ℕ) → set_gives (statements ++ t ∷ []) n ≡ set_gives statements n ++ given_to n t
  with-one n = flat_map-append (given_to n) statements (t ∷ []) ∙ ap (λ l. set_gives statements n ++ l) (append-nil (given_to n t))

  -- what one statement more gives
  pub gathered-more : (numbers : List ℕ) (lists : List (Vec ClassPermission A)) (p : ℕ) (v w : Vec ClassPermission A) → IsStrictlySortedBy nat_cmp numbers → slice_get numbers p ≡ Some t.set
      → slice_get lists p ≡ Some v → w.items ≡ v.items ++ given_with t.permissions → AreGathered statements numbers lists → AreGathered (statements ++ t ∷ []) numbers (set lists p w)
  gathered-more numbers lists p v w sorted numbered at more so_far = record {
    long = length-set lists p w ∙ so_far.long;
    each = λ k n list here there. elim (got-set lists p k w list there) [
      | inl (same, is) ↦
          let one : n ≡ t.set = same_Some n t.set (sym here ∙ ap (slice_get numbers) same ∙ numbered) in
          ap (λ (x : Vec ClassPermission A). x.items) (sym is) ∙ more
          ∙ ap (λ l. l ++ given_with t.permissions) (so_far.each p n v (ap (slice_get numbers) (sym same) ∙ here) at)
          ∙ ap (λ b. set_gives statements n ++ (if b then given_with t.permissions else [])) (sym (eq-eqb n t.set one))
          ∙ sym (with-one n)
      | inr (apart, other) ↦
          let none : (n == t.set) ≡ false = ne_eqb n t.set (λ e. apart (one-place numbers sorted k p n here (numbered ∙ ap Some (sym e)))) in
          so_far.each k n list here other ∙ sym (append-nil (set_gives statements n))
          ∙ ap (λ b. set_gives statements n ++ (if b then given_with t.permissions else [])) (sym none)
          ∙ sym (with-one n)
    ];
  }

past-none : {X : Type 0} (xs : List X) (k : ℕ) → slice_get xs k ≡ None → length xs ≤ k
past-none [] k e = omega arith
past-none (x ∷ xs) zero e = absurd (none-some x (sym e))
past-none (x ∷ xs) (suc k) e = let past = past-none xs k e in omega (arith, past)

-- no set put in order yet
pub ordered-none : {A : Type 0} (numbers : List ℕ) (lists : List (Vec ClassPermission A)) (sets : List (SetPermissions A)) → sets ≡ [] → ArePutInOrder {A = A} (take 0 numbers) lists sets
ordered-none numbers lists sets none = subst (ArePutInOrder (take 0 numbers) lists) (sym none) (record { numbered = refl; each = λ k list s at there. absurd (none-some s there) })

got-push : {X : Type 0} (xs : List X) (y : X) (i : ℕ) (x : X) → slice_get (xs ++ y ∷ []) i ≡ Some x → (slice_get xs i ≡ Some x) ⊎ ((i ≡ length xs) × (y ≡ x))
got-push [] y zero x is = inr (refl, same_Some y x is)
got-push [] y (suc i) x is = absurd (none-some x is)
got-push (z ∷ xs) y zero x is = inl is
got-push (z ∷ xs) y (suc i) x is = elim (got-push xs y i x is) [ inl before ↦ inl before | inr last ↦ inr (omega (arith, last.0), last.1) ]

-- one more
pub ordered-more : {A : Type 0} (numbers : List ℕ) (lists : List (Vec ClassPermission A)) (old new : List (SetPermissions A)) (i : ℕ) (v : Vec ClassPermission A) (s : SetPermissions A)
    → slice_get numbers i ≡ Some s.set → length old ≡ i → slice_get lists i ≡ Some v → IsOrdered v.items (rc_value s.given).items → new ≡ old ++ s ∷ []
    → ArePutInOrder (take i numbers) lists old → ArePutInOrder (take (i + 1) numbers) lists new
ordered-more numbers lists old new i v s numbered long at ordered pushed so_far = record {
  numbered =
      ap (map (λ x. x.set)) pushed ∙ map-append (λ (x : SetPermissions _). x.set) old (s ∷ []) ∙ ap (λ l. l ++ s.set ∷ []) so_far.numbered ∙ sym (take-last numbers i s.set numbered);
  each = λ k list x here there. elim (got-push old s k x (subst (λ l. slice_get l k ≡ Some x) pushed there)) [
    | inl before ↦ so_far.each k list x here before
    | inr (last, same) ↦
        let one : v ≡ list = same_Some v list (sym at ∙ ap (slice_get lists) (sym long ∙ sym last) ∙ here) in
        subst (λ (y : SetPermissions _). IsOrdered list.items (rc_value y.given).items) same (subst (λ (y : Vec ClassPermission _). IsOrdered y.items (rc_value s.given).items) one ordered)
  ];
}

-- ---- the sets

pub sets-give : {A : Type 0} (statements : List (NumberedPermissionSet A)) (numbers : List ℕ) (lists : List (Vec ClassPermission A)) (given : GivenSets A) → AreSetNumbers statements numbers
    → AreGathered statements numbers lists → ArePutInOrder numbers lists given.sets.items → numbers ≡ given.numbers.items → GivesSets statements given
sets-give {A = A} statements numbers lists given are gathered ordered same = record {
  numbered = ordered.numbered ∙ same;
  each = λ s there. by s there.0 (slice_get-get_or given.sets.items there.0 s there.1 ∙ ap Some there.2);
  all = λ t there. subst (λ l. Contains l t.set) same (are.all t there);
}
  where
    by : (s : SetPermissions A) (k : ℕ) → slice_get given.sets.items k ≡ Some s → IsOrdered (set_gives statements s.set) (rc_value s.given).items
    by s k at = listed (slice_get lists k) refl
      where
        numbered : slice_get numbers k ≡ Some s.set
        numbered = ap (λ l. slice_get l k) (sym ordered.numbered) ∙ slice_get-map (λ (x : SetPermissions A). x.set) given.sets.items k ∙ ap (option_map (λ x. x.set)) at

        listed : (o : Option (Vec ClassPermission A)) → slice_get lists k ≡ o → IsOrdered (set_gives statements s.set) (rc_value s.given).items
        listed None e = absurd (none-some s.set (sym (slice_get_past numbers k (let past = past-none lists k e in omega (arith, past, gathered.long))) ∙ numbered))
        listed (Some v) e = subst (λ l. IsOrdered l (rc_value s.given).items) (gathered.each k s.set v numbered e) (ordered.each k v s e at)

-- a list in order of nothing is nothing
pub nothing-ordered : (items : List ClassPermission) → IsOrdered [] items → length items ≡ 0
nothing-ordered [] ordered = refl
nothing-ordered (g ∷ items) ordered = let none = ((ordered.same g).0 (contains-first g items)).1 in absurd (omega (arith, none))

-- what a set that was found gives
pub found-gives : {A : Type 0} (statements : List (NumberedPermissionSet A)) (given : GivenSets A) (n k : ℕ) (s : SetPermissions A) → GivesSets statements given → slice_get given.numbers.items k ≡ Some n
    → slice_get given.sets.items k ≡ Some s → IsOrdered (set_gives statements n) (rc_value s.given).items
found-gives {A = A} statements given n k s gives found at =
    let numbered : Some s.set ≡ Some n = sym (ap (λ l. slice_get l k) (sym gives.numbered) ∙ slice_get-map (λ (x : SetPermissions A). x.set) given.sets.items k ∙ ap (option_map (λ x. x.set)) at) ∙ found in
    subst (λ m. IsOrdered (set_gives statements m) (rc_value s.given).items) (same_Some s.set n numbered) (gives.each s (contained given.sets.items k s at))

-- one that isn't among the sets gives nothing
pub none-gives : {A : Type 0} (statements : List (NumberedPermissionSet A)) (given : GivenSets A) (n : ℕ) → GivesSets statements given → (Contains given.numbers.items n → ⊥)
    → IsOrdered (set_gives statements n) (rc_value given.none.given).items
none-gives {A = A} statements given n gives absent =
    subst (λ l. IsOrdered l (rc_value given.none.given).items) (sym (nothing statements (λ t there. gives.all t there))) (record {
      rising = given.none.ordered;
      same = λ g. (
        λ there. (let none = given.nothing in let low = there.1 in absurd (omega (arith, none, low))),
        λ there. (let low = there.1 in absurd (omega (arith, low))),
      );
    })
  where
    nothing : (some : List (NumberedPermissionSet A)) → ((t : NumberedPermissionSet A) → Contains some t → Contains given.numbers.items t.set) → set_gives some n ≡ []
    nothing [] all = refl
    nothing (t ∷ some) all =
        let other : (n == t.set) ≡ false = ne_eqb n t.set (λ e. absent (subst (Contains given.numbers.items) (sym e) (all t (contains-first t some)))) in
        ap (λ b. (if b then given_with t.permissions else []) ++ set_gives some n) other ∙ nothing some (λ u there. all u (contains-other t some u there))
