-- The first fault of a policy, kind by kind.
use Rattle.cil_check.proofs.Common.{◌≡◌, inl, inr, ℕ, ◌+◌, ◌<◌, ◌≤◌, suc, ◌==◌, List, [], ◌∷◌, get_or, Some, Contains, refl, sym, ap, ◌∙◌, subst, arith, if◌then◌else◌, none-some, same_Some, slice_get_within, get_or_from_slice_get, cases_order, Word, Placed, twice, missing, wrong_kind, alias_twice, alias_unset, second_common, too_many_permissions, circular, code_of, IsFaultOf, missing_words, is_outside, faulty_words, policy_kind_of, IsFoundFault, PolicyFaultIs, IsLeast, IsFaultIn, IsFaultless, contains-first, around, AreFoundInside, Twice, Missing, WrongKind, AliasTwice, AliasUnset, SecondCommon, TooManyPermissions, Circular}
use Rattle.std.proofs.Common.{slice_get}
use Rattle.cil_specs.specs.PolicyFault as spec
use Rattle.cil_check.specs.declared.fault.PolicyFaultKind.{PolicyFaultKind}
use Rattle.cil_check.specs.declared.fault.PolicyFault.{PolicyFault}
use Rattle.cil_check.specs.declared.fault.PolicyFault.TheVariants.{Memory, Found}

-- what holds of a fault holds of the one that is made
pub found-is : (fault : PolicyFault) (P : spec.PolicyFault → Type 0) (made : spec.PolicyFault) → IsFoundFault fault (λ f. f ≡ made) → P made → IsFoundFault fault P
found-is Memory P made is holds = is
found-is (Found code module_name at text) P made is holds = subst P (sym is) holds

pub found-weaker : (fault : PolicyFault) (P Q : spec.PolicyFault → Type 0) → ((f : spec.PolicyFault) → P f → Q f) → IsFoundFault fault P → IsFoundFault fault Q
found-weaker Memory P Q weaker is = is
found-weaker (Found kind module_name at word) P Q weaker is = weaker _ is

-- a fault that is found is none but out of memory
-- a fault that was found isn't out of memory
pub found-one : (fault : PolicyFault) (P : spec.PolicyFault → Type 0) → IsFoundFault fault P → fault ≡ Memory → ⊥
found-one fault P found is = subst (λ f. IsFoundFault f P) is found

pub found-fault : (fault : PolicyFault) (P : spec.PolicyFault → Type 0) → IsFoundFault fault P → PolicyFaultIs fault P
found-fault Memory P is = tt
found-fault (Found kind module_name at word) P is = is

pub memory-fault : (fault : PolicyFault) (P : spec.PolicyFault → Type 0) → fault ≡ Memory → PolicyFaultIs fault P
memory-fault fault P is = subst (λ f. PolicyFaultIs f P) (sym is) tt

-- what follows from what holds of a fault
pub fault-weaker : (fault : PolicyFault) (P Q : spec.PolicyFault → Type 0) → ((f : spec.PolicyFault) → P f → Q f) → PolicyFaultIs fault P → PolicyFaultIs fault Q
fault-weaker Memory P Q weaker is = tt
fault-weaker (Found kind module_name at word) P Q weaker is = weaker _ is

pub first-some : (words : List Word) (word : Word) → Some word ≡ slice_get words 0 → (more : List Word) × (words ≡ word ∷ more)
first-some [] word is = absurd (none-some word (sym is))
first-some (w ∷ words) word is = (words, ap (λ v. v ∷ words) (sym (same_Some word w is)))

-- no fault of a code below 42 and some
abbrev pub NoneBelow : List Placed → ℕ → Type 0
NoneBelow policy n = (fault : spec.PolicyFault) → IsFaultOf fault.kind policy fault → code_of fault.kind < 42 + n → ⊥

-- a kind by its code
abbrev kind_at : ℕ → spec.PolicyFaultKind
kind_at n = if n == 41 then twice else if n == 42 then missing else if n == 43 then wrong_kind else if n == 44 then alias_twice else if n == 45 then alias_unset else if n == 46 then second_common else if n == 47 then too_many_permissions else circular

at-code : (kind : spec.PolicyFaultKind) → kind_at (code_of kind) ≡ kind
at-code twice = refl
at-code _ = refl

same-code : (a b : spec.PolicyFaultKind) → code_of a ≡ code_of b → a ≡ b
same-code a b e = sym (at-code a) ∙ ap kind_at e ∙ at-code b

pub none-first : (policy : List Placed) → ((fault : spec.PolicyFault) → IsFaultOf twice policy fault → ⊥) → NoneBelow policy 0
none-first policy once fault is less = once fault (subst (λ k. IsFaultOf k policy fault) (below fault.kind less) is)
  where
    below : (kind : spec.PolicyFaultKind) → code_of kind < 42 + 0 → kind ≡ twice
    below twice less = refl
    below _ less = absurd (omega (arith, less))

abbrev pub checked : List PolicyFaultKind
checked = Missing ∷ WrongKind ∷ AliasTwice ∷ AliasUnset ∷ SecondCommon ∷ TooManyPermissions ∷ []

pub checked-code : (n : ℕ) → n < 6 → code_of (policy_kind_of (get_or checked n Twice)) ≡ 42 + n
checked-code (suc (suc (suc (suc (suc (suc n)))))) less = absurd (omega (arith, less))
checked-code _ less = refl

pub checked-once : (n : ℕ) → n < 6 → get_or checked n Twice ≡ Twice → ⊥
checked-once n less e = let code : 41 ≡ 42 + n = sym (ap (λ k. code_of (policy_kind_of k)) e) ∙ checked-code n less in omega (arith, code)

pub checked-straight : (n : ℕ) → n < 6 → get_or checked n Twice ≡ Circular → ⊥
checked-straight n less e = let code : 48 ≡ 42 + n = sym (ap (λ k. code_of (policy_kind_of k)) e) ∙ checked-code n less in omega (arith, less, code)

pub none-next : (policy : List Placed) (n : ℕ) (kind : spec.PolicyFaultKind) → code_of kind ≡ 42 + n → ((fault : spec.PolicyFault) → IsFaultOf kind policy fault → ⊥)
    → NoneBelow policy n → NoneBelow policy (n + 1)
none-next policy n kind code none so_far fault is less = elim (cases_order (code_of fault.kind) (42 + n)) [
  | inl same ↦ none fault (subst (λ k. IsFaultOf k policy fault) (same-code fault.kind kind (same ∙ sym code)) is)
  | inr other ↦ elim other [ inl lesser ↦ so_far fault is lesser | inr greater ↦ omega (arith, less, greater) ]
]

-- all names of each statement are found, where none is missing outside optionals and those inside have theirs found
names-found : (policy : List Placed) → AreFoundInside policy → ((fault : spec.PolicyFault) → IsFaultOf missing policy fault → ⊥) → (s : Placed) → Contains policy s → missing_words policy s ≡ []
names-found policy inside none s there = by s.optionals refl
  where
    no-words : (words : List Word) → missing_words policy s ≡ words → s.optionals ≡ [] → missing_words policy s ≡ []
    no-words [] is top = is
    no-words (word ∷ words) is top =
        let at = around policy s there in
        absurd (none (record { kind = missing; module_name = s.module_name; at = word.at; word = word.text })
        (record {
          before = at.before;
          s = s;
          after = at.after;
          word = word;
          split = at.whole;
          is_faulty = subst (λ o. Contains (if is_outside o then missing_words policy s else []) word) (sym top) (subst (λ l. Contains l word) (sym is) (contains-first word words));
          is_at = refl;
        }))

    by : (optionals : List ℕ) → s.optionals ≡ optionals → missing_words policy s ≡ []
    by [] is = no-words (missing_words policy s) refl is
    by (at ∷ outer) is = inside s there (λ top. cc (sym top ∙ is))

-- the faulty words of a statement
pub missing-at : (policy before : List Placed) (i : ℕ) (s : Placed) → AreFoundInside policy → slice_get policy i ≡ Some s → missing_words policy s ≡ faulty_words missing policy before s
missing-at policy before i s inside at = by s.optionals refl
  where
    by : (optionals : List ℕ) → s.optionals ≡ optionals → missing_words policy s ≡ (if is_outside s.optionals then missing_words policy s else [])
    by [] is = ap (λ o. if is_outside o then missing_words policy s else []) (sym is)
    by (n ∷ outer) is =
        inside s (i, slice_get_within policy i s at, get_or_from_slice_get policy i s s at) (λ top. cc (sym top ∙ is)) ∙ ap (λ o. if is_outside o then missing_words policy s else []) (sym is)

-- there is none of the codes gone over, and of fewer
pub none-fewer : (policy : List Placed) (n m : ℕ) → m ≤ n → NoneBelow policy n → NoneBelow policy m
none-fewer policy n m le so_far fault is less = so_far fault is (omega (arith, less, le))

-- a fault that is none of a lesser code is that of a circle
pub circular-alone : (policy : List Placed) → NoneBelow policy 6 → (fault : spec.PolicyFault) → IsFaultIn policy fault → fault.kind ≡ circular
circular-alone policy so_far fault is = by fault.kind (so_far fault is)
  where
    by : (kind : spec.PolicyFaultKind) → (code_of kind < 42 + 6 → ⊥) → kind ≡ circular
    by circular none = refl
    by _ none = absurd (none (omega arith))

pub none-all : (policy : List Placed) → AreFoundInside policy → NoneBelow policy 6 → ((fault : spec.PolicyFault) → IsFaultOf circular policy fault → ⊥) → IsFaultless policy
none-all policy inside so_far straight = record {
  none = none;
  found = names-found policy inside (λ fault is. none fault (subst (λ k. IsFaultOf k policy fault) (sym (ap (λ f. f.kind) is.is_at)) is));
}
  where
    below : (kind : spec.PolicyFaultKind) → code_of kind < 42 + 7
    below twice = omega arith
    below _ = omega arith

    none : (fault : spec.PolicyFault) → IsFaultIn policy fault → ⊥
    none fault is = none-next policy 6 circular refl straight so_far fault is (below fault.kind)

-- the least fault of the first kind with one is the first
pub first-least : (policy : List Placed) (n : ℕ) (kind : spec.PolicyFaultKind) → code_of kind ≡ 42 + n → NoneBelow policy n → (fault : spec.PolicyFault)
    → IsLeast (IsFaultOf kind policy) fault → IsLeast (IsFaultIn policy) fault
first-least policy n kind code none fault least = record {
  is = subst (λ k. IsFaultOf k policy fault) (sym own) least.is;
  first = λ other is. elim (cases_order (code_of other.kind) (42 + n)) [
    | inl same ↦ least.first other (subst (λ k. IsFaultOf k policy other) (same-code other.kind kind (same ∙ sym code)) is)
    | inr unlike ↦ elim unlike [
      | inl lesser ↦ absurd (none other is lesser)
      | inr greater ↦ (let c : code_of fault.kind ≡ 42 + n = ap code_of own ∙ code in inl (omega (arith, c, greater)))
    ]
  ];
}
  where
    own : fault.kind ≡ kind
    own = ap (λ f. f.kind) least.is.is_at
