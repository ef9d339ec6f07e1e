-- What is judged of edits that are made at once is one.
use Rattle.cil_store_specs.proofs.Common.{◌≡◌, ◌⊎◌, inl, inr, List, [], ◌∷◌, ◌++◌, sym, ap, ◌∙◌, subst, true≢false, Meaning, Store, IsStore, Edit, Refusal, IsMeaningOf, IsNotTaken, IsTaken, AreTaken, IsPolicyRefusal, Judgement, accepts, refuses, NextOfAll, one_not_taken, bad_policy_of_all, all_good, Next, too_long, at_once}
use Rattle.cil_store_specs.proofs.OneStore.{no-meaning, policy-refusal-same, not-taken-same, taken-or-not, taken-same}
use Rattle.cil_store_specs.proofs.StoreOrder.{taken-ordered}

-- the first of the edits that isn't taken is refused so
abbrev IsStuck : Store → List Edit → Refusal → Type 0
IsStuck store [] refusal = ⊥
IsStuck store (edit ∷ edits) refusal = IsNotTaken store edit refusal ⊎ ((mid : Store) × IsTaken store edit mid × IsStuck mid edits refusal)

stuck : (store mid : Store) (before : List Edit) (edit : Edit) (after : List Edit) (refusal : Refusal) → AreTaken store before mid → IsNotTaken mid edit refusal → IsStuck store (before ++ edit ∷ after) refusal
stuck store mid [] edit after refusal are is = inl (subst (λ s. IsNotTaken s edit refusal) are is)
stuck store mid (first ∷ before) edit after refusal (next, taken, are) is = inr (next, taken, stuck next mid before edit after refusal are is)

stuck-same : (store : Store) (edits : List Edit) (r s : Refusal) → IsStuck store edits r → IsStuck store edits s → r ≡ s
stuck-same store [] r s a b = absurd a
stuck-same store (edit ∷ edits) r s (inl a) (inl b) = not-taken-same store edit r s a b
stuck-same store (edit ∷ edits) r s (inl a) (inr b) = absurd (taken-or-not store b.0 edit r b.1 a)
stuck-same store (edit ∷ edits) r s (inr a) (inl b) = absurd (taken-or-not store a.0 edit s a.1 b)
stuck-same store (edit ∷ edits) r s (inr a) (inr b) = stuck-same b.0 edits r s (subst (λ m. IsStuck m edits r) (taken-same store a.0 b.0 edit a.1 b.1) a.2) b.2

stuck-or-taken : (store new : Store) (edits : List Edit) (r : Refusal) → IsStuck store edits r → AreTaken store edits new → ⊥
stuck-or-taken store new [] r a b = a
stuck-or-taken store new (edit ∷ edits) r (inl a) b = taken-or-not store b.0 edit r b.1 a
stuck-or-taken store new (edit ∷ edits) r (inr a) b = stuck-or-taken b.0 new edits r (subst (λ m. IsStuck m edits r) (taken-same store a.0 b.0 edit a.1 b.1) a.2) b.2

all-taken-same : (store new other : Store) (edits : List Edit) → AreTaken store edits new → AreTaken store edits other → new ≡ other
all-taken-same store new other [] a b = a ∙ sym b
all-taken-same store new other (edit ∷ edits) a b = all-taken-same b.0 new other edits (subst (λ m. AreTaken m edits new) (taken-same store a.0 b.0 edit a.1 b.1) a.2) b.2

all-ordered : (store new : Store) (edits : List Edit) → IsStore store → AreTaken store edits new → IsStore new
all-ordered store new [] is are = subst IsStore (sym are) is
all-ordered store new (edit ∷ edits) is (mid, taken, are) = all-ordered mid new edits (taken-ordered store mid edit is taken) are

-- What is judged, by whether all edits are taken.
data JudgedBy (store : Store) (edits : List Edit) (judgement : Judgement) : Type 0 where
  by_an_edit : (refusal : Refusal) → IsStuck store edits refusal → judgement ≡ refuses refusal → JudgedBy store edits judgement
  by_the_policy : (new : Store) (refusal : Refusal) → AreTaken store edits new → IsPolicyRefusal new refusal → judgement ≡ refuses refusal → JudgedBy store edits judgement
  by_none : (new : Store) (meaning : Meaning) → AreTaken store edits new → IsMeaningOf new meaning → judgement ≡ accepts new → JudgedBy store edits judgement

judged-by : (store : Store) (edits : List Edit) (judgement : Judgement) → NextOfAll store edits judgement → JudgedBy store edits judgement
judged-by store edits judgement (one_not_taken before edit after mid refusal split are not is) =
    by_an_edit refusal (subst (λ es. IsStuck store es refusal) (sym split) (stuck store mid before edit after refusal are not)) is
judged-by store edits judgement (bad_policy_of_all new refusal are refused is) = by_the_policy new refusal are refused is
judged-by store edits judgement (all_good new meaning are means is) = by_none new meaning are means is

same : (store : Store) (edits : List Edit) (j k : Judgement) → IsStore store → JudgedBy store edits j → JudgedBy store edits k → j ≡ k
same store edits j k ordered (by_an_edit r a is) (by_an_edit s b also) = is ∙ ap refuses (stuck-same store edits r s a b) ∙ sym also
same store edits j k ordered (by_an_edit r a is) (by_the_policy new s b refused also) = absurd (stuck-or-taken store new edits r a b)
same store edits j k ordered (by_an_edit r a is) (by_none new meaning b means also) = absurd (stuck-or-taken store new edits r a b)
same store edits j k ordered (by_the_policy new r a refused is) (by_an_edit s b also) = absurd (stuck-or-taken store new edits s b a)
same store edits j k ordered (by_the_policy new r a refused is) (by_the_policy other s b more also) =
    is ∙ ap refuses (policy-refusal-same other r s (all-ordered store other edits ordered b) (subst (λ n. IsPolicyRefusal n r) (all-taken-same store new other edits a b) refused) more) ∙ sym also
same store edits j k ordered (by_the_policy new r a refused is) (by_none other meaning b means also) =
    absurd (no-meaning other meaning r means (subst (λ n. IsPolicyRefusal n r) (all-taken-same store new other edits a b) refused))
same store edits j k ordered (by_none new meaning a means is) (by_an_edit s b also) = absurd (stuck-or-taken store new edits s b a)
same store edits j k ordered (by_none new meaning a means is) (by_the_policy other s b refused also) =
    absurd (no-meaning other meaning s (subst (λ n. IsMeaningOf n meaning) (all-taken-same store new other edits a b) means) refused)
same store edits j k ordered (by_none new meaning a means is) (by_none other more b others also) = is ∙ ap accepts (all-taken-same store new other edits a b) ∙ sym also

pub at-once-same : (store : Store) (edits : List Edit) (j k : Judgement) → IsStore store → NextOfAll store edits j → NextOfAll store edits k → j ≡ k
at-once-same store edits j k ordered a b = same store edits j k ordered (judged-by store edits j a) (judged-by store edits k b)

-- So is what is judged of a batch.
pub next-same : (store : Store) (edits : List Edit) (j k : Judgement) → IsStore store → Next store edits j → Next store edits k → j ≡ k
next-same store edits j k ordered (too_long long is) (too_long also same) = is ∙ sym same
next-same store edits j k ordered (too_long long is) (at_once short b) = absurd (true≢false (sym long ∙ short))
next-same store edits j k ordered (at_once short a) (too_long long is) = absurd (true≢false (sym long ∙ short))
next-same store edits j k ordered (at_once short a) (at_once also b) = at-once-same store edits j k ordered a b
