-- The set statements of a policy in order stand apart, and so do those that an order lists.
use Rattle.cil_resolve.proofs.Common.{◌≡◌, ◌≢◌, ◌∙◌, inl, inr, ℕ, suc, ◌<◌, ◌≤◌, ◌^◌, List, [], ◌∷◌, ◌++◌, length, map, flat_map, get_or, Option, Some, None, All, Contains, refl, sym, ap, subst, arith, cons_option, ordering_reverse, Less, Greater, cases_order, nat_list_cmp_total, get_or-map, length-append, length-map, All-contains, Contains-get_or, recursion_from_All, Contains-from_any, get_or_from_slice_get, slice_get_within, Placed, name_cmp, SetStatement, sets_of, set_statement_of, Form, attribute_set, flat-contains, all-contained, contains-cases, contains-first, contains-mapped, offsets_in, IsBefore, AreOrdered, set_of, sets_at, IsSetOrder, NumberedSet}
use Rattle.std.proofs.Common.{slice_get, AllPairs, eqb-true}
use Rattle.std.proofs.lemmas.Bool.Decides.{Decides-eqb}
use Rattle.std.proofs.lemmas.List.Kept.{AllPairs-cons}
use Rattle.std.proofs.lemmas.Map.Made.{IsDistinct-from_AllPairs}
use Rattle.std.proofs.lemmas.Map.Steps.{length-le_from_distinct_below}
use Rattle.cil_resolve.specs.Apart.{StandApart}
use Rattle.cil_resolve.proofs.SetNameLemmas.{at-set}
use Rattle.cil_resolve.proofs.SetOrderLemmas.{at-length}

-- a set statement stands where its statement does
set-stands : (whole : List Placed) (s : Placed) (form : Form) (x : SetStatement) → Contains (set_statement_of whole s form) x → (s.module_name ≡ x.module_name) × (s.at.offset ≡ x.at.offset)
set-stands whole s (attribute_set attribute expr) x c = elim (contains-cases _ [] x c) [
  | inl same ↦ (ap (λ (y : SetStatement). y.module_name) same, ap (λ (y : SetStatement). y.at.offset) same)
  | inr none ↦ absurd (omega (arith, none.1))
]
set-stands whole s _ x c = absurd (omega (arith, c.1))

-- of two statements in order, no module and offset are the same
before-apart : (s t : Placed) → IsBefore s t → s.module_name ≡ t.module_name → s.at.offset ≡ t.at.offset → ⊥
before-apart s t (inl lesser) same offset =
    let self : name_cmp t.module_name t.module_name ≡ Less = sym (ap (λ n. name_cmp n t.module_name) same) ∙ lesser in
    less-greater (sym self ∙ nat_list_cmp_total.antisymm t.module_name t.module_name ∙ ap ordering_reverse self)
  where
    less-greater : Less ≡ Greater → ⊥
    less-greater e = cc
before-apart s t (inr before) same offset =
    let less = before.1 s.at.offset t.at.offset (contains-first s.at.offset (offsets_in s.form)) (contains-first t.at.offset (offsets_in t.form)) in
    omega (arith, less, offset)

-- a statement gives one set statement at most
set-alone : (whole : List Placed) (s : Placed) (form : Form) → length (set_statement_of whole s form) ≤ 1
set-alone whole s (attribute_set attribute expr) = omega arith
set-alone whole s _ = omega arith

-- one at most in front of others that it stands apart from
put-ahead : (own others : List SetStatement) → length own ≤ 1 → ((x : SetStatement) → Contains own x → All (StandApart x) others) → AllPairs StandApart others → AllPairs StandApart (own ++ others)
put-ahead [] others few behind rest = rest
put-ahead (x ∷ []) others few behind rest = AllPairs-cons StandApart x others (behind x (contains-first x [])) rest
put-ahead (x ∷ y ∷ own) others few behind rest = absurd (omega (arith, few))

among-apart : (whole policy : List Placed) → AreOrdered policy → AllPairs StandApart (flat_map (λ s. set_statement_of whole s s.form) policy)
among-apart whole [] ordered = λ i j d less low. absurd (omega (arith, low))
among-apart whole (s ∷ policy) ordered =
    put-ahead (set_statement_of whole s s.form) (flat_map (λ t. set_statement_of whole t t.form) policy) (set-alone whole s s.form) behind (among-apart whole policy ordered.2)
  where
    behind : (x : SetStatement) → Contains (set_statement_of whole s s.form) x → All (StandApart x) (flat_map (λ t. set_statement_of whole t t.form) policy)
    behind x own k d low names offsets =
        let others = flat_map (λ t. set_statement_of whole t t.form) policy in
        let at = set-stands whole s s.form x own in
        let (t, there, from) = flat-contains (λ t. set_statement_of whole t t.form) policy (get_or others k d) (Contains-get_or others k d low) in
        let stands = set-stands whole t t.form (get_or others k d) from in
        before-apart s t (all-contained (IsBefore s) policy t ordered.1 there) (at.0 ∙ names ∙ sym stands.0) (at.1 ∙ offsets ∙ sym stands.1)

pub sets-apart : (policy : List Placed) → AreOrdered policy → AllPairs StandApart (sets_of policy)
sets-apart policy ordered = among-apart policy policy ordered

-- set statements are no more than statements
among-few : (whole policy : List Placed) → length (flat_map (λ s. set_statement_of whole s s.form) policy) ≤ length policy
among-few whole [] = omega arith
among-few whole (s ∷ policy) =
    let own = set_statement_of whole s s.form in
    let alone = set-alone whole s s.form in
    let others = among-few whole policy in
    let long = length-append own (flat_map (λ t. set_statement_of whole t t.form) policy) in
    omega (arith, alone, others, long)

pub sets-few : (policy : List Placed) → length policy < 2 ^ 32 → length (sets_of policy) < 2 ^ 32
sets-few policy few = let le = among-few policy policy in omega (arith, le, few)

module _ {A : Type 0} (modules names : List (List ℕ)) (sets : List (NumberedSet A)) where
  -- two statements at different numbers
  numbers-apart : AllPairs StandApart (map (set_of modules names) sets) → (m n : ℕ) (s t : NumberedSet A) → slice_get sets m ≡ Some s → slice_get sets n ≡ Some t → m ≢ n
      → StandApart (set_of modules names s) (set_of modules names t)
  numbers-apart apart m n s t at then other same offset = elim (cases_order m n) [
    | inl one ↦ other one
    | inr order ↦ elim order [
      | inl less ↦ in-order m n s t at then less same offset
      | inr more ↦ in-order n m t s then at more (sym same) (sym offset)
    ]
  ]
    where
      at-number : (n : ℕ) (s : NumberedSet A) (d : SetStatement) → slice_get sets n ≡ Some s → get_or (map (set_of modules names) sets) n d ≡ set_of modules names s
      at-number n s d at = get_or-map (set_of modules names) sets n s d (slice_get_within sets n s at) ∙ ap (set_of modules names) (get_or_from_slice_get sets n s s at)

      in-order : (m n : ℕ) (s t : NumberedSet A) → slice_get sets m ≡ Some s → slice_get sets n ≡ Some t → m < n → StandApart (set_of modules names s) (set_of modules names t)
      in-order m n s t at then less =
          let d = set_of modules names s in
          let low = subst (λ l. n < l) (sym (length-map sets (set_of modules names))) (slice_get_within sets n t then) in
          subst (λ x. StandApart x (set_of modules names t)) (at-number m s d at)
          (subst (StandApart (get_or (map (set_of modules names) sets) m d)) (at-number n t d then) (apart m n d less low))

  among-numbers : AllPairs StandApart (map (set_of modules names) sets) → (numbers : List ℕ) → AllPairs (λ m n. m ≢ n) numbers → AllPairs StandApart (map (set_of modules names) (sets_at sets numbers))
  among-numbers apart [] once = λ i j d less low. absurd (omega (arith, low))
  among-numbers apart (n ∷ numbers) once = by (slice_get sets n) refl (among-numbers apart numbers (λ i j d less low. once (suc i) (suc j) d (omega (arith, less)) (omega (arith, low))))
    where
      behind : (s : NumberedSet A) → slice_get sets n ≡ Some s → All (StandApart (set_of modules names s)) (map (set_of modules names) (sets_at sets numbers))
      behind s at k d low =
          let others = map (set_of modules names) (sets_at sets numbers) in
          let (t, there, is) = contains-mapped (set_of modules names) (sets_at sets numbers) (get_or others k d) (Contains-get_or others k d low) in
          let (j, within, then) = at-set modules names sets numbers t there in
          subst (StandApart (set_of modules names s)) is (numbers-apart apart n (get_or numbers j 0) s t at then (once 0 (suc j) 0 (omega arith) (omega (arith, within))))

      by : (o : Option (NumberedSet A)) → slice_get sets n ≡ o → AllPairs StandApart (map (set_of modules names) (sets_at sets numbers))
          → AllPairs StandApart (map (set_of modules names) (cons_option o (sets_at sets numbers)))
      by None at rest = rest
      by (Some s) at rest = AllPairs-cons StandApart (set_of modules names s) (map (set_of modules names) (sets_at sets numbers)) (behind s at) rest

  pub listed-apart : AllPairs StandApart (map (set_of modules names) sets) → (order : List ℕ) → IsSetOrder sets order → AllPairs StandApart (map (set_of modules names) (sets_at sets order))
  listed-apart apart order is = among-numbers apart order is.once

  order-short : (order : List ℕ) → IsSetOrder sets order → length order ≤ length sets
  order-short order is =
      length-le_from_distinct_below order (length sets) (IsDistinct-from_AllPairs Decides-eqb order is.once)
      (λ q any. All-contains (λ n. n < length sets) order q is.within (Contains-from_any eqb-true q order any))

  pub listed-few : length sets < 2 ^ 32 → (order : List ℕ) → IsSetOrder sets order → length (map (set_of modules names) (sets_at sets order)) < 2 ^ 32
  listed-few few order is =
      let mapped = length-map (sets_at sets order) (set_of modules names) in
      let long = at-length sets order (recursion_from_All (λ n. n < length sets) order is.within) in
      let short = order-short order is in
      omega (arith, few, mapped, long, short)
