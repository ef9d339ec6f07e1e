-- A policy compiles, or it has a first fault.
use Rattle.cil_specs.proofs.Common.{◌≡◌, ◌⊎◌, inl, inr, ◌↔◌, ℕ, ◌≤◌, List, [], ◌∷◌, ◌++◌, map, if◌then◌else◌, refl, sym, ap, ◌∙◌, subst, append_assoc, arith, nat_cmp, is_eq, ordering_reverse, Ordering, Less, Equal, Greater, cases_lt, cases_order, nat_list_cmp_total, bytes_eq-Decides, Word, Placed, PolicyFaultKind, twice, missing, wrong_kind, alias_twice, alias_unset, second_common, too_many_permissions, circular, PolicyFault, twice_words, missing_words, wrong_kind_words, alias_twice_words, alias_unset_words, second_common_words, too_many_words, is_outside, IsFaulty, IsFaultOf, Optionals, judged, IsPolicyFault, IsFirst, Compiles}
use Rattle.std.proofs.Common.{flat_map, Contains}
use Rattle.std.specs.Cmp.Lexicographic.{slice_cmp}
use Rattle.std.proofs.lemmas.Map.Text.{is_eq-slice_cmp}
use Rattle.cil_specs.specs.PolicyFault.{code_of, IsNoLater}
use Rattle.cil_specs.proofs.NamesLemmas.{contains-first, contains-other, contains-cases, contains-map, contains-mapped}
use Rattle.cil_specs.proofs.FaultWords.{contains-left, contains-right, contains-append_cases}
use Rattle.cil_specs.proofs.MeansLemmas.{contains-flat, flat-contains}
use Rattle.cil_specs.proofs.CircularLemmas.{circular_words, circular-listed}

-- The words of a statement at which it has a fault of a kind.
abbrev pub faulty_words : PolicyFaultKind → List Placed → List Placed → Placed → List Word
faulty_words twice policy before s = twice_words before s
faulty_words missing policy before s = if is_outside s.optionals then missing_words policy s else []
faulty_words wrong_kind policy before s = wrong_kind_words policy s
faulty_words alias_twice policy before s = alias_twice_words policy before s
faulty_words alias_unset policy before s = alias_unset_words policy s
faulty_words second_common policy before s = second_common_words policy before s
faulty_words too_many_permissions policy before s = too_many_words policy s
faulty_words circular policy before s = circular_words policy s

pub faulty-listed : (kind : PolicyFaultKind) (policy before : List Placed) (s : Placed) (word : Word) → Contains (faulty_words kind policy before s) word ↔ IsFaulty kind policy before s word
faulty-listed circular policy before s word = circular-listed policy s word
faulty-listed _ policy before s word = (λ c. c, λ c. c)

abbrev fault_at : PolicyFaultKind → Placed → Word → PolicyFault
fault_at kind s word = record { kind = kind; module_name = s.module_name; at = word.at; word = word.text }

-- The faults of a kind of a policy.
module _ (kind : PolicyFaultKind) (policy : List Placed) where
  abbrev faults_behind : List Placed → List Placed → List PolicyFault
  faults_behind before [] = []
  faults_behind before (s ∷ after) = map (fault_at kind s) (faulty_words kind policy before s) ++ faults_behind (before ++ s ∷ []) after

  listed-fault : (before after : List Placed) → policy ≡ before ++ after → (fault : PolicyFault) → Contains (faults_behind before after) fault → IsFaultOf kind policy fault
  listed-fault before [] split fault c = absurd (omega (arith, c.1))
  listed-fault before (s ∷ after) split fault c = elim (contains-append_cases (map (fault_at kind s) (faulty_words kind policy before s)) (faults_behind (before ++ s ∷ []) after) fault c) [
    | inl here ↦ (let word = contains-mapped (fault_at kind s) (faulty_words kind policy before s) fault here in
        record { before = before; s = s; after = after; word = word.0; split = split; is_faulty = (faulty-listed kind policy before s word.0).0 word.1; is_at = sym word.2 })
    | inr there ↦ listed-fault (before ++ s ∷ []) after (split ∙ sym (append_assoc before (s ∷ []) after)) fault there
  ]

  fault-listed : (front before : List Placed) (s : Placed) (after : List Placed) (word : Word) → Contains (faulty_words kind policy (front ++ before) s) word
      → Contains (faults_behind front (before ++ s ∷ after)) (fault_at kind s word)
  fault-listed front [] s after word c =
      contains-left (map (fault_at kind s) (faulty_words kind policy front s)) (faults_behind (front ++ s ∷ []) after) (fault_at kind s word)
      (contains-map (fault_at kind s) (faulty_words kind policy front s) word (subst (λ l. Contains (faulty_words kind policy l s) word) (append-none front) c))
    where
      append-none : (l : List Placed) → l ++ [] ≡ l
      append-none [] = refl
      append-none (x ∷ l) = ap (λ m. x ∷ m) (append-none l)
  fault-listed front (x ∷ before) s after word c =
      contains-right (map (fault_at kind x) (faulty_words kind policy front x)) (faults_behind (front ++ x ∷ []) (before ++ s ∷ after)) (fault_at kind s word)
      (fault-listed (front ++ x ∷ []) before s after word (subst (λ l. Contains (faulty_words kind policy l s) word) (sym (append_assoc front (x ∷ []) before)) c))

-- All faults of a policy, by some optionals.
abbrev kinds : List PolicyFaultKind
kinds = twice ∷ missing ∷ wrong_kind ∷ alias_twice ∷ alias_unset ∷ second_common ∷ too_many_permissions ∷ circular ∷ []

kind-there : (kind : PolicyFaultKind) → Contains kinds kind
kind-there twice = (0, omega arith, refl)
kind-there missing = (1, omega arith, refl)
kind-there wrong_kind = (2, omega arith, refl)
kind-there alias_twice = (3, omega arith, refl)
kind-there alias_unset = (4, omega arith, refl)
kind-there second_common = (5, omega arith, refl)
kind-there too_many_permissions = (6, omega arith, refl)
kind-there circular = (7, omega arith, refl)

-- Of two faults one is no later.
IsNext : List ℕ → List ℕ → ℕ → ℕ → Type 0
IsNext m n i j = (slice_cmp nat_cmp m n ≡ Less) ⊎ ((m ≡ n) × (i ≤ j))

next-total : (m n : List ℕ) (i j : ℕ) → IsNext m n i j ⊎ IsNext n m j i
unfolding IsNext
next-total m n i j = by (slice_cmp nat_cmp m n) refl
  where
    by : (o : Ordering) → slice_cmp nat_cmp m n ≡ o → IsNext m n i j ⊎ IsNext n m j i
    by Less e = inl (inl e)
    by Greater e = inr (inl (nat_list_cmp_total.antisymm n m ∙ ap ordering_reverse e))
    by Equal e =
        let same : m ≡ n = (bytes_eq-Decides m n).0 (sym (is_eq-slice_cmp m n) ∙ ap is_eq e) in
        elim (cases_lt i j) [ inl less ↦ inl (inr (same, omega (arith, less))) | inr le ↦ inr (inr (sym same, le)) ]

next-trans : (l m n : List ℕ) (i j k : ℕ) → IsNext l m i j → IsNext m n j k → IsNext l n i k
unfolding IsNext
next-trans l m n i j k (inl less) (inl more) = inl (nat_list_cmp_total.trans l m n less more)
next-trans l m n i j k (inl less) (inr (same, le)) = inl (subst (λ x. slice_cmp nat_cmp l x ≡ Less) same less)
next-trans l m n i j k (inr (same, le)) (inl less) = inl (subst (λ x. slice_cmp nat_cmp x n ≡ Less) (sym same) less)
next-trans l m n i j k (inr (same, le)) (inr (other, more)) = inr (same ∙ other, omega (arith, le, more))

no-later-total : (f g : PolicyFault) → IsNoLater f g ⊎ IsNoLater g f
unfolding IsNext
no-later-total f g = elim (cases_order (code_of f.kind) (code_of g.kind)) [
  | inl same ↦ (elim (next-total f.module_name g.module_name f.at.offset g.at.offset) [ inl a ↦ inl (inr (same, a)) | inr b ↦ inr (inr (sym same, b)) ])
  | inr (inl less) ↦ inl (inl less)
  | inr (inr more) ↦ inr (inl more)
]

no-later-trans : (f g h : PolicyFault) → IsNoLater f g → IsNoLater g h → IsNoLater f h
unfolding IsNext
no-later-trans f g h (inl a) (inl b) = inl (omega (arith, a, b))
no-later-trans f g h (inl a) (inr (same, b)) = inl (omega (arith, a, same))
no-later-trans f g h (inr (same, a)) (inl b) = inl (omega (arith, same, b))
no-later-trans f g h (inr (same, a)) (inr (other, b)) = inr (same ∙ other, next-trans f.module_name g.module_name h.module_name f.at.offset g.at.offset h.at.offset a b)

-- the first of some faults
record FirstOf (faults : List PolicyFault) : Type 0 where
  fault : PolicyFault
  there : Contains faults fault
  first : (other : PolicyFault) → Contains faults other → IsNoLater fault other

itself : (f : PolicyFault) → IsNoLater f f
itself f = inr (refl, inr (refl, omega arith))

first-of : (f : PolicyFault) (faults : List PolicyFault) → FirstOf (f ∷ faults)
first-of f [] = record {
  fault = f;
  there = contains-first f [];
  first = λ other c. elim (contains-cases f [] other c) [ inl same ↦ subst (IsNoLater f) same (itself f) | inr none ↦ absurd (omega (arith, none.1)) ];
}
first-of f (g ∷ faults) = by (first-of g faults)
  where
    by : FirstOf (g ∷ faults) → FirstOf (f ∷ g ∷ faults)
    by next = elim (no-later-total f next.fault) [
      | inl before ↦ record {
        fault = f;
        there = contains-first f (g ∷ faults);
        first = λ other c. elim (contains-cases f (g ∷ faults) other c) [ inl same ↦ subst (IsNoLater f) same (itself f) | inr more ↦ no-later-trans f next.fault other before (next.first other more) ];
      }
      | inr after ↦ record {
        fault = next.fault;
        there = contains-other f (g ∷ faults) next.fault next.there;
        first = λ other c. elim (contains-cases f (g ∷ faults) other c) [ inl same ↦ subst (IsNoLater next.fault) same after | inr more ↦ next.first other more ];
      }
    ]

module _ (kept : Optionals) (policy : List Placed) where
  abbrev faults_of : PolicyFaultKind → List PolicyFault
  faults_of kind = faults_behind kind (judged kind kept policy) [] (judged kind kept policy)

  is-listed : (fault : PolicyFault) → IsPolicyFault kept policy fault → Contains (flat_map faults_of kinds) fault
  is-listed fault f =
      contains-flat faults_of kinds fault.kind fault (kind-there fault.kind)
      (subst (λ l. Contains (faults_behind fault.kind (judged fault.kind kept policy) [] l) fault) (sym f.split)
      (subst (Contains (faults_behind fault.kind (judged fault.kind kept policy) [] (f.before ++ f.s ∷ f.after))) (sym f.is_at)
      (fault-listed fault.kind (judged fault.kind kept policy) [] f.before f.s f.after f.word ((faulty-listed fault.kind (judged fault.kind kept policy) f.before f.s f.word).1 f.is_faulty))))

  listed-is : (fault : PolicyFault) → Contains (flat_map faults_of kinds) fault → IsPolicyFault kept policy fault
  listed-is fault c =
      let from = flat-contains faults_of kinds fault c in
      let of_kind : IsFaultOf from.0 (judged from.0 kept policy) fault = listed-fault from.0 (judged from.0 kept policy) [] (judged from.0 kept policy) refl fault from.2 in
      subst (λ k. IsFaultOf k (judged k kept policy) fault) (sym (ap (λ f. f.kind) of_kind.is_at)) of_kind

  -- a policy compiles, or it has a first fault
  pub compiles-or-first : Compiles kept policy ⊎ ((fault : PolicyFault) × IsFirst kept policy fault)
  compiles-or-first = by (flat_map faults_of kinds) refl
    where
      by : (faults : List PolicyFault) → flat_map faults_of kinds ≡ faults → Compiles kept policy ⊎ ((fault : PolicyFault) × IsFirst kept policy fault)
      by [] none = inl (λ fault f. (let c : Contains [] fault = subst (λ l. Contains l fault) none (is-listed fault f) in omega (arith, c.1)))
      by (f ∷ faults) some =
          let first = first-of f faults in
          inr (
            first.fault,
            record {
              is = listed-is first.fault (subst (λ l. Contains l first.fault) (sym some) first.there);
              first = λ other g. first.first other (subst (λ l. Contains l other) some (is-listed other g));
            },
          )
