-- The steps of edits that are refused, and what a store means.
use Rattle.cil_store.proofs.Common.{◌≡◌, inl, inr, List, false, Some, None, Result, Ok, Err, IfErr, refl, ap, sym, ◌∙◌, subst, Module, joined, Means, Meaning, is_in_table, Changes, AreChanges, Store, active, AreModules, AreTaken, IsMeaningOf, Refusal, HasGoodText, IsTaken, changed, store_refusal, by_itself, by_its_text, is_too_long, all_good, at_once, a_batch, changed_by, refused, accepted, rejected, out_of_memory, Step, IsRefusalOf, IsRefusalOfPolicy, IsRefusedBatch, IsRefusedEdit, IsRefusedText, IsRefusedPolicy, refusal_of}
use Rattle.cil_specs.specs.Kept.{Optionals, IsFirstFault}
use Rattle.cil_store_specs.specs.Next.{Edit}
use Rattle.cil_check.specs.Image.{PolicyFaultIs}
use Rattle.cil_check.specs.declared.fault.PolicyFault.{PolicyFault}
use Rattle.cil_check.specs.declared.fault.PolicyFault.TheVariants.{Memory, Found}
use Rattle.cil_store.specs.Admitted.{admitted_edit, IsAdmitted}
use Rattle.cil_resolve.specs.declared.meter.Meter.{Meter}
use Rattle.cil_store.specs.Counted.{AreCountedBetween}
use Rattle.cil_store.specs.declared.refusal.Refusal as code
use Rattle.cil_store.specs.declared.admitted.Admitted.{Admitted}
use Rattle.cil_store.specs.declared.admitted.Admitted.TheVariants.{Install, Remove, Enable, Disable}

-- the text of an admitted edit, if it brings one, spells a module
pub admitted-text : {A : Type 0} (edit : Admitted A) → IsAdmitted edit → HasGoodText (admitted_edit edit)
admitted-text (Install entry parsed) is = (is.statements, is.is_text)
admitted-text (Remove name priority) is = tt
admitted-text (Enable name) is = tt
admitted-text (Disable name) is = tt

-- and it is taken, as what it is made of
pub admitted-taken : {A : Type 0} (store new : Store) (admitted : Admitted A) (edit other : Edit) → IsAdmitted admitted → admitted_edit admitted ≡ edit → edit ≡ other → store_refusal store edit ≡ None
    → new ≡ changed store (admitted_edit admitted) → IsTaken store other new
admitted-taken store new admitted edit other is same also taken made =
    subst (λ e. IsTaken store e new) (same ∙ also) (record { not_refused = subst (λ e. store_refusal store e ≡ None) (sym same) taken; good_text = admitted-text admitted is; is = made })

pub policy-refused : (fault : PolicyFault) (refusal : Refusal) (store : Store) (modules : List Module) → AreModules (active store) modules → PolicyFaultIs fault (IsFirstFault (joined modules))
    → IsRefusalOfPolicy fault refusal → IsRefusedPolicy store refusal
policy-refused Memory refusal store modules are first is = inl is
policy-refused (Found kind module_name at word) refusal store modules are first (inl is) = inl is
policy-refused (Found kind module_name at word) refusal store modules are first (inr is) = inr (joined modules, _, (modules, are, refl), first, is)

-- what a store means, by the policy that the modules of its active entries resolve to
pub store-meaning : (store : Store) (modules : List Module) (meaning : Meaning) → AreModules (active store) modules → (kept : Optionals) × Means (joined modules) kept meaning → IsMeaningOf store meaning
store-meaning store modules meaning are means = record { policy = joined modules; kept = means.0; is_policy = (modules, are, refl); means = means.1 }

-- what a store means, the same store does
pub means-at : {store same : Store} {meaning : Meaning} → store ≡ same → IsMeaningOf store meaning → IsMeaningOf same meaning
means-at {meaning = meaning} is meant = subst (λ s. IsMeaningOf s meaning) is meant

-- an edit that the store refuses
pub store-refused : (store : Store) (edit : Edit) (refusal meant : Refusal) → store_refusal store edit ≡ Some meant → IsRefusalOf refusal meant → IsRefusedEdit store edit refusal
store-refused store edit refusal meant is (inl memory) = inl memory
store-refused store edit refusal meant is (inr same) = inr (by_itself (is ∙ ap Some (sym same)))

-- an edit that is refused for its text
pub edit-refused : {A T : Type 0} (r : Result T (code.Refusal A)) (store : Store) (edit : Edit) → store_refusal store edit ≡ None → IfErr r (λ refusal. IsRefusedText edit (refusal_of refusal))
    → IfErr r (λ refusal. IsRefusedEdit store edit (refusal_of refusal))
edit-refused (Ok x) store edit taken is = tt
edit-refused (Err refusal) store edit taken (inl memory) = inl memory
edit-refused (Err refusal) store edit taken (inr is) = inr (by_its_text taken is)

-- the step of a batch that is refused
pub refused-step : (store : Store) (edits : List Edit) (refusal : Refusal) → IsRefusedBatch store edits refusal → Step store (a_batch edits) (refused refusal) store
refused-step store edits refusal (inl memory) = out_of_memory (ap refused memory) refl
refused-step store edits refusal (inr is) = rejected edits refusal refl refl is refl

-- the step of a batch that was made, by what the store meant before and what it means after
pub made-step : (store new : Store) (edits : List Edit) (before after : Meaning) (changes : Changes) → is_too_long edits ≡ false → AreTaken store edits new → IsMeaningOf store before → IsMeaningOf new after
    → AreChanges (is_in_table before) (is_in_table after) changes → Step store (a_batch edits) (changed_by changes) new
made-step store new edits before after changes short taken meant means are =
    accepted edits changes refl refl (record {
      next = at_once short (all_good new after taken means refl);
      before = before;
      after = after;
      meant = meant;
      means = means;
      are_changes = are;
    })

-- so was one that was prepared, by the store that came of it
pub prepared-step : (store new prepared : Store) (edits : List Edit) (after : Meaning) (changes : Changes) (first last : Meter) → is_too_long edits ≡ false → AreTaken store edits prepared → (before : Meaning) × IsMeaningOf store before
    → IsMeaningOf prepared after → new ≡ prepared → AreCountedBetween store new first last changes → Step store (a_batch edits) (changed_by changes) new
prepared-step store new prepared edits after changes first last short taken (before, meant) means same are =
    subst (λ s. Step store (a_batch edits) (changed_by changes) s) (sym same)
    (made-step store prepared edits before after changes short taken meant means (are before after meant (means-at (sym same) means)).are_changes)
