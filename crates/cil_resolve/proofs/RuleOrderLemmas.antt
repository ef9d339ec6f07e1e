-- The rules of a policy in order are in order.
use Rattle.cil_resolve.proofs.Common.{◌≡◌, ◌∙◌, inl, inr, ◌<◌, ◌≤◌, List, [], ◌∷◌, ◌++◌, length, flat_map, Contains, sym, ap, arith, AllByRecursion, IsStrictlySortedBy, nat_cmp, ordering_then, Less, nat_list_cmp_total, tied_itself, Placed, name_cmp, Rule, rules_of, rule_of, Form, rule, flat-contains, all-contained, contains-cases, contains-first, contains-other, offsets_in, IsBefore, AreOrdered}
use Rattle.std.specs.Cmp.{nat_cmp_is}
use Rattle.cil_specs.specs.Violations.{rule_cmp}

-- a rule stands where its statement does
rule-stands : (whole : List Placed) (s : Placed) (form : Form) (r : Rule) → Contains (rule_of whole s form) r → (s.module_name ≡ r.module_name) × (s.at.offset ≡ r.at.offset)
rule-stands whole s (rule kind source target permissions) r c = elim (contains-cases _ [] r c) [
  | inl same ↦ (ap (λ (y : Rule). y.module_name) same, ap (λ (y : Rule). y.at.offset) same)
  | inr none ↦ absurd (omega (arith, none.1))
]
rule-stands whole s _ r c = absurd (omega (arith, c.1))

-- a statement gives one rule at most
rule-alone : (whole : List Placed) (s : Placed) (form : Form) → length (rule_of whole s form) ≤ 1
rule-alone whole s (rule kind source target permissions) = omega arith
rule-alone whole s _ = omega arith

-- what stands at statements in order is in order
before-less : (s t : Placed) (q r : Rule) → IsBefore s t → (s.module_name ≡ q.module_name) × (s.at.offset ≡ q.at.offset) → (t.module_name ≡ r.module_name) × (t.at.offset ≡ r.at.offset) → rule_cmp q r ≡ Less
before-less s t q r (inl lesser) from to =
    ap (λ o. ordering_then o (nat_cmp q.at.offset r.at.offset)) (sym (λ i. name_cmp (from.0 i) (to.0 i)) ∙ lesser)
before-less s t q r (inr before) from to =
    let less = before.1 s.at.offset t.at.offset (contains-first s.at.offset (offsets_in s.form)) (contains-first t.at.offset (offsets_in t.form)) in
    let below : q.at.offset < r.at.offset = omega (arith, less, from.1, to.1) in
    ap (λ o. ordering_then o (nat_cmp q.at.offset r.at.offset)) (ap (λ n. name_cmp n r.module_name) (sym from.0 ∙ before.0 ∙ to.0) ∙ tied_itself nat_list_cmp_total r.module_name)
    ∙ sym (nat_cmp_is q.at.offset r.at.offset Less below)

all-from-contained : {X : Type 0} (P : X → Type 0) (xs : List X) → ((x : X) → Contains xs x → P x) → AllByRecursion P xs
all-from-contained P [] each = tt
all-from-contained P (x ∷ xs) each = (each x (contains-first x xs), all-from-contained P xs (λ y there. each y (contains-other x xs y there)))

-- one at most in front of others that it is less than
put-ahead : (own others : List Rule) → length own ≤ 1 → ((r : Rule) → Contains own r → AllByRecursion (λ q. rule_cmp r q ≡ Less) others) → IsStrictlySortedBy rule_cmp others → IsStrictlySortedBy rule_cmp (own ++ others)
unfolding IsStrictlySortedBy
put-ahead [] others few behind rest = rest
put-ahead (r ∷ []) others few behind rest = (behind r (contains-first r []), rest)
put-ahead (r ∷ q ∷ own) others few behind rest = absurd (omega (arith, few))

among-sorted : (whole policy : List Placed) → AreOrdered policy → IsStrictlySortedBy rule_cmp (flat_map (λ s. rule_of whole s s.form) policy)
unfolding IsStrictlySortedBy
among-sorted whole [] ordered = tt
among-sorted whole (s ∷ policy) ordered =
    put-ahead (rule_of whole s s.form) (flat_map (λ t. rule_of whole t t.form) policy) (rule-alone whole s s.form) behind (among-sorted whole policy ordered.2)
  where
    behind : (r : Rule) → Contains (rule_of whole s s.form) r → AllByRecursion (λ q. rule_cmp r q ≡ Less) (flat_map (λ t. rule_of whole t t.form) policy)
    behind r own =
        all-from-contained (λ q. rule_cmp r q ≡ Less) (flat_map (λ t. rule_of whole t t.form) policy) (λ q there.
        let (t, among, from) = flat-contains (λ t. rule_of whole t t.form) policy q there in
        before-less s t r q (all-contained (IsBefore s) policy t ordered.1 among) (rule-stands whole s s.form r own) (rule-stands whole t t.form q from))

pub rules-sorted : (policy : List Placed) → AreOrdered policy → IsStrictlySortedBy rule_cmp (rules_of policy)
rules-sorted policy ordered = among-sorted policy policy ordered
