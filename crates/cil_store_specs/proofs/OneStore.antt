-- A store has one meaning or one refusal, and an edit of it one judgement.
use Rattle.cil_store_specs.proofs.Common.{◌≡◌, ◌⊎◌, inl, inr, ℕ, ◌≤◌, ◌==◌, ◌∷◌, [], List, if◌then◌else◌, Option, Some, None, is_some, Contains, refl, sym, ap, ◌∙◌, subst, true≢false, arith, nat_cmp, Less, Equal, Greater, ordering_reverse, nat_list_cmp_total, tied_itself, Module, Placed, joined, Meaning, meaning_of, Entry, Store, IsStore, active, AreModules, IsPolicyOf, IsMeaningOf, Edit, install, remove, enable, disable, Refusal, at_place, store_refusal, HasGoodText, IsTextRefusal, IsNotTaken, by_itself, by_its_text, IsTaken, IsPolicyRefusal, contains-middle, words_in, contains-filtered, faulty-word}
use Rattle.std.specs.Cmp.Lexicographic.{slice_cmp}
use Rattle.cil_specs.specs.TextFault as text_fault
use Rattle.cil_specs.specs.Names.{Word}
use Rattle.cil_specs.specs.PolicyFault.{PolicyFaultKind, twice, missing, wrong_kind, alias_twice, alias_unset, second_common, too_many_permissions, circular, code_of, PolicyFault, IsAtWordOf, IsNoLater}
use Rattle.cil_specs.specs.Kept.{Optionals, AreKept, is_within, restricted, judged, IsPolicyFault, IsFirst, dropped_of}
use Rattle.cil_specs.proofs.KeptLemmas.{kept-one}
use Rattle.cil_specs.proofs.OneText.{module_text_same, no-text-fault, text-fault-same}
use Rattle.cil_store_specs.proofs.OneFault.{one-word}

modules-same : (entries : List Entry) (ms ns : List Module) → AreModules entries ms → AreModules entries ns → ms ≡ ns
modules-same [] [] [] a b = refl
modules-same [] [] (n ∷ ns) a b = absurd b
modules-same [] (m ∷ ms) ns a b = absurd a
modules-same (e ∷ entries) [] ns a b = absurd a
modules-same (e ∷ entries) (m ∷ ms) [] a b = absurd b
modules-same (e ∷ entries) (m ∷ ms) (n ∷ ns) a b =
    let names : m.name ≡ n.name = a.0 ∙ sym b.0 in
    let statements = module_text_same e.text m.statements n.statements a.1 b.1 in
    let others = modules-same entries ms ns a.2 b.2 in
    λ i. record { name = names i; statements = statements i } ∷ others i

policy-same : (store : Store) (p q : List Placed) → IsPolicyOf store p → IsPolicyOf store q → p ≡ q
policy-same store p q a b = a.2 ∙ ap joined (modules-same (active store) a.0 b.0 a.1 b.1) ∙ sym b.2

-- What a store keeps, and what it means.
pub meaning-same : (store : Store) (m n : Meaning) → IsMeaningOf store m → IsMeaningOf store n → m ≡ n
meaning-same store m n a b =
    let policies = policy-same store a.policy b.policy a.is_policy b.is_policy in
    let kept = kept-one b.policy a.kept b.kept (subst (λ p. AreKept p a.kept) policies a.means.are_kept) b.means.are_kept in
    a.means.is ∙ (λ i. meaning_of (restricted (kept i) (policies i)) (dropped_of (kept i) (policies i))) ∙ sym b.means.is

-- what a store is refused for, by the policy and the optionals that another finds
refused-as : (store : Store) (policy other : List Placed) (kept others : Optionals) (fault : PolicyFault) → IsPolicyOf store policy → IsPolicyOf store other → AreKept policy kept → AreKept other others → IsFirst kept policy fault → IsFirst others other fault
refused-as store policy other kept others fault a b k l h =
    let policies = policy-same store policy other a b in
    let same = kept-one other kept others (subst (λ p. AreKept p kept) policies k) l in
    subst (λ o. IsFirst o other fault) same (subst (λ p. IsFirst kept p fault) policies h)

pub no-meaning : (store : Store) (meaning : Meaning) (refusal : Refusal) → IsMeaningOf store meaning → IsPolicyRefusal store refusal → ⊥
no-meaning store meaning refusal m r = m.means.compiles r.1 (refused-as store r.0 m.policy r.3.0 m.kept r.1 r.2 m.is_policy r.3.1 m.means.are_kept r.3.2).is

-- The first fault of a policy stands at a word of one of its statements.
record IsAtSome (policy : List Placed) (fault : PolicyFault) : Type 0 where
  kind : PolicyFaultKind
  s : Placed
  word : Word
  is_in : Contains policy s
  has : Contains (words_in s.form) word
  is_at : IsAtWordOf fault kind s word

judged-in : (kind : PolicyFaultKind) (kept : Optionals) (policy : List Placed) (s : Placed) → Contains (judged kind kept policy) s → Contains policy s
judged-in twice kept policy s c = c
judged-in _ kept policy s c = contains-filtered (is_within kept) policy s c

at-some : (kept : Optionals) (policy : List Placed) (fault : PolicyFault) → IsPolicyFault kept policy fault → IsAtSome policy fault
at-some kept policy fault h = record {
  kind = fault.kind;
  s = h.s;
  word = h.word;
  is_in = judged-in fault.kind kept policy h.s (subst (λ p. Contains p h.s) (sym h.split) (contains-middle h.before h.s h.after));
  has = faulty-word fault.kind (judged fault.kind kept policy) h.before h.s h.word h.is_faulty;
  is_at = h.is_at;
}

-- the kind that has a code
abbrev kind_of_code : ℕ → PolicyFaultKind
kind_of_code n = if n == 41 then twice else if n == 42 then missing else if n == 43 then wrong_kind else if n == 44 then alias_twice else if n == 45 then alias_unset else if n == 46 then second_common else if n == 47 then too_many_permissions else circular

kind-of-code : (kind : PolicyFaultKind) → kind_of_code (code_of kind) ≡ kind
kind-of-code twice = refl
kind-of-code _ = refl

not-both-less : (a b : List ℕ) → slice_cmp nat_cmp a b ≡ Less → slice_cmp nat_cmp b a ≡ Less → ⊥
not-both-less a b less more = let e : slice_cmp nat_cmp b a ≡ Greater = nat_list_cmp_total.antisymm b a ∙ ap ordering_reverse less in cc (sym more ∙ e)

not-less-itself : (a b : List ℕ) → slice_cmp nat_cmp a b ≡ Less → a ≡ b → ⊥
not-less-itself a b less same = let e : slice_cmp nat_cmp a a ≡ Equal = tied_itself nat_list_cmp_total a in cc (sym less ∙ (ap (slice_cmp nat_cmp a) (sym same) ∙ e))

-- where two faults of policies stand
record IsSamePlace (f g : PolicyFault) : Type 0 where
  kinds : f.kind ≡ g.kind
  names : f.module_name ≡ g.module_name
  offsets : f.at.offset ≡ g.at.offset

-- of two faults neither of which is later the kind, the module and the offset are one
same-place : (f g : PolicyFault) → IsNoLater f g → IsNoLater g f → IsSamePlace f g
same-place f g (inl h) (inl k) = absurd (omega (arith, h, k))
same-place f g (inl h) (inr k) = absurd (omega (arith, h, k.0))
same-place f g (inr h) (inl k) = absurd (omega (arith, h.0, k))
same-place f g (inr h) (inr k) = by h.1 k.1
  where
    by : ((slice_cmp nat_cmp f.module_name g.module_name ≡ Less) ⊎ ((f.module_name ≡ g.module_name) × (f.at.offset ≤ g.at.offset)))
        → ((slice_cmp nat_cmp g.module_name f.module_name ≡ Less) ⊎ ((g.module_name ≡ f.module_name) × (g.at.offset ≤ f.at.offset))) → IsSamePlace f g
    by (inl a) (inl b) = absurd (not-both-less f.module_name g.module_name a b)
    by (inl a) (inr b) = absurd (not-less-itself f.module_name g.module_name a (sym b.0))
    by (inr a) (inl b) = absurd (not-less-itself g.module_name f.module_name b (sym a.0))
    by (inr a) (inr b) = record { kinds = sym (kind-of-code f.kind) ∙ ap kind_of_code h.0 ∙ kind-of-code g.kind; names = a.0; offsets = omega (arith, a.1, b.1) }

fault-same : (store : Store) (policy : List Placed) (f g : PolicyFault) → IsStore store → IsPolicyOf store policy → IsAtSome policy f → IsAtSome policy g → IsSamePlace f g → f ≡ g
fault-same store policy f g is_store is_policy a b same =
    let names : a.s.module_name ≡ b.s.module_name = sym (ap (λ x. x.module_name) a.is_at) ∙ same.names ∙ ap (λ x. x.module_name) b.is_at in
    let words = one-word store policy a.s b.s a.word b.word is_store is_policy a.is_in b.is_in a.has b.has names (sym (ap (λ x. x.at.offset) a.is_at) ∙ same.offsets ∙ ap (λ x. x.at.offset) b.is_at) in
    let kinds : a.kind ≡ b.kind = sym (ap (λ x. x.kind) a.is_at) ∙ same.kinds ∙ ap (λ x. x.kind) b.is_at in
    a.is_at ∙ (λ i. record { kind = kinds i; module_name = names i; at = (words i).at; word = (words i).text }) ∙ sym b.is_at

first-same : (store : Store) (policy : List Placed) (kept : Optionals) (f g : PolicyFault) → IsStore store → IsPolicyOf store policy → IsFirst kept policy f → IsFirst kept policy g → f ≡ g
first-same store policy kept f g is_store is_policy h k =
    fault-same store policy f g is_store is_policy (at-some kept policy f h.is) (at-some kept policy g k.is) (same-place f g (h.first g k.is) (k.first f h.is))

pub policy-refusal-same : (store : Store) (r s : Refusal) → IsStore store → IsPolicyRefusal store r → IsPolicyRefusal store s → r ≡ s
policy-refusal-same store r s is_store a b =
    let faults = first-same store b.0 b.3.0 a.1 b.1 is_store b.2 (refused-as store a.0 b.0 a.3.0 b.3.0 a.1 a.2 b.2 a.3.1 b.3.1 a.3.2) b.3.2 in
    a.4 ∙ (λ i. at_place (code_of (faults i).kind) (faults i).module_name (faults i).at (faults i).word) ∙ sym b.4

-- Whether an edit is taken.

text-refusal-same : (edit : Edit) (r s : Refusal) → IsTextRefusal edit r → IsTextRefusal edit s → r ≡ s
text-refusal-same (install name priority text) r s a b =
    let faults = text-fault-same text a.0 b.0 a.1 b.1 in
    a.2 ∙ (λ i. at_place (text_fault.code_of (faults i).kind) name (faults i).at (faults i).word) ∙ sym b.2
text-refusal-same (remove name priority) r s a b = absurd a
text-refusal-same (enable name) r s a b = absurd a
text-refusal-same (disable name) r s a b = absurd a

no-good-text : (edit : Edit) (r : Refusal) → HasGoodText edit → IsTextRefusal edit r → ⊥
no-good-text (install name priority text) r a b = no-text-fault text a.0 b.0 a.1 b.1
no-good-text (remove name priority) r a b = b
no-good-text (enable name) r a b = b
no-good-text (disable name) r a b = b

some-none : (r : Refusal) (o : Option Refusal) → o ≡ Some r → o ≡ None → ⊥
some-none r o a b = true≢false (ap is_some (sym a ∙ b))

refusal-same : (o : Option Refusal) (r s : Refusal) → o ≡ Some r → o ≡ Some s → r ≡ s
refusal-same o r s a b = cc (sym a ∙ b)

pub not-taken-same : (store : Store) (edit : Edit) (r s : Refusal) → IsNotTaken store edit r → IsNotTaken store edit s → r ≡ s
not-taken-same store edit r s (by_itself a) (by_itself b) = refusal-same (store_refusal store edit) r s a b
not-taken-same store edit r s (by_itself a) (by_its_text none b) = absurd (some-none r (store_refusal store edit) a none)
not-taken-same store edit r s (by_its_text none a) (by_itself b) = absurd (some-none s (store_refusal store edit) b none)
not-taken-same store edit r s (by_its_text none a) (by_its_text other b) = text-refusal-same edit r s a b

pub taken-or-not : (store new : Store) (edit : Edit) (r : Refusal) → IsTaken store edit new → IsNotTaken store edit r → ⊥
taken-or-not store new edit r taken (by_itself a) = some-none r (store_refusal store edit) a taken.not_refused
taken-or-not store new edit r taken (by_its_text none a) = no-good-text edit r taken.good_text a

pub taken-same : (store new other : Store) (edit : Edit) → IsTaken store edit new → IsTaken store edit other → new ≡ other
taken-same store new other edit a b = a.is ∙ sym b.is
