-- Edits that are taken in turn.
use Rattle.cil_store.proofs.Common.{◌≡◌, inl, inr, ℕ, ◌+◌, suc, ◌<◌, List, [], ◌∷◌, ◌++◌, true, false, map, take, drop, length, get_or, refl, ap, sym, ◌∙◌, subst, take-append-drop, take_more, map-append, Store, Refusal, refuses, IsTaken, AreTaken, one_not_taken, bad_policy_of_all, is_too_long, too_long, at_once, edit_of, install_of, owned_entry, store_refusal_of, IsRefusalOf, IsRefusedBatch, IsRefusedEdit, IsRefusedPolicy, AreRefused, AreStopped}
use Rattle.std.proofs.Math.Seq.{drop-cons}
use Rattle.cil_store_specs.specs.Next as spec
use Rattle.cil_store_specs.proofs.TakenLemmas.{taken-more}
use Rattle.cil_store.specs.declared.edit.Edit.{Edit}
use Rattle.cil_store.specs.declared.entry.OwnedEntry.{OwnedEntry}
use Rattle.cil_store.specs.declared.refusal.StoreFault.TheVariants.{BatchTooLong}

-- the first edits are taken, and one more
pub first-taken : (edits : List Edit) (i : ℕ) (d : Edit) (store mid new : Store) → i < length edits → AreTaken store (map edit_of (take i edits)) mid → IsTaken mid (edit_of (get_or edits i d)) new
    → AreTaken store (map edit_of (take (i + 1) edits)) new
first-taken edits i d store mid new within are is =
    subst (λ es. AreTaken store es new) (sym (ap (map edit_of) (take_more edits i d within) ∙ map-append edit_of (take i edits) (get_or edits i d ∷ [])))
    (taken-more store mid new (map edit_of (take i edits)) (edit_of (get_or edits i d)) are is)

-- the first edits are taken, and the next one is not
pub next-refused : (edits : List Edit) (i : ℕ) (d : Edit) (store mid : Store) (refusal : Refusal) → i < length edits → AreTaken store (map edit_of (take i edits)) mid
    → IsRefusedEdit mid (edit_of (get_or edits i d)) refusal → AreStopped store (map edit_of edits) refusal
next-refused edits i d store mid refusal within are (inl memory) = inl memory
next-refused edits i d store mid refusal within are (inr is) = inr (map edit_of (take i edits), edit_of (get_or edits i d), map edit_of (drop (suc i) edits), mid, split, are, is)
  where
    split : map edit_of edits ≡ map edit_of (take i edits) ++ edit_of (get_or edits i d) ∷ map edit_of (drop (suc i) edits)
    split = ap (map edit_of) (sym (take-append-drop i edits) ∙ ap (λ l. take i edits ++ l) (drop-cons edits i d within)) ∙ map-append edit_of (take i edits) (get_or edits i d ∷ drop (suc i) edits)

-- so they are refused at once
pub stopped-refused : (store : Store) (edits : List spec.Edit) (refusal : Refusal) → AreStopped store edits refusal → AreRefused store edits refusal
stopped-refused store edits refusal (inl memory) = inl memory
stopped-refused store edits refusal (inr (before, edit, after, mid, split, are, not)) = inr (one_not_taken before edit after mid refusal split are not refl)

-- all are taken, and the policy is refused
pub policy-refused-all : (store new : Store) (edits : List spec.Edit) (refusal : Refusal) → AreTaken store edits new → IsRefusedPolicy new refusal → AreRefused store edits refusal
policy-refused-all store new edits refusal are (inl memory) = inl memory
policy-refused-all store new edits refusal are (inr policy) = inr (bad_policy_of_all new refusal are policy refl)

-- so is a batch of them that isn't too long
pub refused-batch : (store : Store) (edits : List spec.Edit) (refusal : Refusal) → is_too_long edits ≡ false → AreRefused store edits refusal → IsRefusedBatch store edits refusal
refused-batch store edits refusal short (inl memory) = inl memory
refused-batch store edits refusal short (inr is) = inr (at_once short is)

-- and one that is
pub refused-long : (store : Store) (edits : List spec.Edit) (refusal : Refusal) (word : List ℕ) → is_too_long edits ≡ true → word ≡ spec.batch_word → IsRefusalOf refusal (store_refusal_of BatchTooLong word 0)
    → IsRefusedBatch store edits refusal
refused-long store edits refusal word long is (inl memory) = inl memory
refused-long store edits refusal word long is (inr same) = inr (too_long long (ap refuses (same ∙ ap (spec.by_store 35) is)))

-- entries that own their texts are taken, and one more
pub owned-taken : {A : Type 0} (entries : List (OwnedEntry A)) (e : OwnedEntry A) (store mid new : Store) → AreTaken store (map install_of (map owned_entry entries)) mid → IsTaken mid (install_of (owned_entry e)) new
    → AreTaken store (map install_of (map owned_entry (entries ++ e ∷ []))) new
owned-taken entries e store mid new are is =
    subst (λ es. AreTaken store es new) (sym (ap (map install_of) (map-append owned_entry entries (e ∷ [])) ∙ map-append install_of (map owned_entry entries) (owned_entry e ∷ [])))
    (taken-more store mid new (map install_of (map owned_entry entries)) (install_of (owned_entry e)) are is)

-- and the next one is not
pub owned-stopped : {A : Type 0} (all before : List (OwnedEntry A)) (e : OwnedEntry A) (after : List (OwnedEntry A)) (store mid : Store) (refusal : Refusal) → all ≡ before ++ e ∷ after → AreTaken store (map install_of (map owned_entry before)) mid
    → IsRefusedEdit mid (install_of (owned_entry e)) refusal → AreStopped store (map install_of (map owned_entry all)) refusal
owned-stopped all before e after store mid refusal same are (inl memory) = inl memory
owned-stopped all before e after store mid refusal same are (inr is) =
    inr (
      map install_of (map owned_entry before),
      install_of (owned_entry e),
      map install_of (map owned_entry after),
      mid,
      ap (λ l. map install_of (map owned_entry l)) same ∙ ap (map install_of) (map-append owned_entry before (e ∷ after)) ∙ map-append install_of (map owned_entry before) (owned_entry e ∷ map owned_entry after),
      are,
      is,
    )
