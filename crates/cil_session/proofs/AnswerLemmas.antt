-- What answers an edit and a batch.
use Rattle.cil_session.proofs.Common.{◌≡◌, ◌++◌, ℕ, List, length, codes, decimal, Option, None, Some, Result, Ok, Err, IfOk, IfErr, refl, ap, sym, ◌∙◌, subst, Changes, Store, a_batch, an_edit, changed_by, refused, Step, makes, commits, install, Answer, Answers, IsLeftAside, batch_behind, answer_aside, answer_of, a_line, Batch, HeldEdits, all_held, IsHeld, makes_all, state_of, by_the_edit, by_holding, by_the_batch, edit_of, refusal_of, counts_line, Does, AnswersBatch, Makes}
use Rattle.cil_counters.specs.ChangeCounts.{AreCountsOf, CountsSome}
use Rattle.cil_symbol_changes.specs.declared.counted_changes.ChangeCounts.{ChangeCounts}
use Rattle.cil_store_specs.specs.Next as spec
use Rattle.cil_store_specs.specs.Answers as answers
use Rattle.cil_store_specs.specs.Answers.{IsCommitted}
use Rattle.cil_store.specs.Edits.{name_of}
use Rattle.cil_store.specs.declared.edit.Edit.{Edit}
use Rattle.cil_store.specs.declared.edit.Edit.TheVariants.{Install, Remove, Enable, Disable}
use Rattle.cil_store.specs.declared.refusal.Refusal.{Refusal}
use Rattle.cil_session.specs.declared.session.LeftAside.{LeftAside}

-- an edit has one name
pub same-name : (edit : Edit) → name_of edit ≡ answers.name_of (edit_of edit)
same-name (Install name priority text) = refl
same-name (Remove name priority) = refl
same-name (Enable name) = refl
same-name (Disable name) = refl

-- the line of changes is that of their numbers
counted-line : (changes : Changes) (counts : ChangeCounts) → AreCountsOf changes counts → a_line (counts_line counts) ≡ answer_of (changed_by changes)
counted-line changes counts are i = a_line (codes "ok " ++ decimal (are.added i) ++ codes " " ++ decimal (are.removed i) ++ codes "\n")

-- an edit was made and answered
pub edit-made : {A : Type 0} (old new : Store) (edit : spec.Edit) (made : Result ChangeCounts (Refusal A)) (answer : Answer) → IfOk made (CountsSome (λ changes. Step old (an_edit edit) (changed_by changes) new))
    → IfErr made (λ refusal. Step old (an_edit edit) (refused (refusal_of refusal)) new) → AnswersBatch made answer → Does (state_of old) (makes edit) (state_of new) answer
edit-made old new edit (Ok counts) answer some none is = λ number. by_the_edit edit (changed_by some.changes) new refl refl some.those (is ∙ counted-line some.changes counts some.are_counts) refl
edit-made old new edit (Err refusal) answer none step is = λ number. by_the_edit edit (refused (refusal_of refusal)) new refl refl step is refl

-- so was a batch
pub batch-made : {A : Type 0} (old new : Store) (batch : Option Batch) (b : Batch) (edits : List spec.Edit) (made : Result ChangeCounts (Refusal A)) (answer : Answer) → batch ≡ Some b → b.held ≡ all_held edits → Makes old edits new made → AnswersBatch made answer
    → Does (record { store = old; batch = batch }) commits (state_of new) answer
batch-made old new batch b edits (Ok counts) answer found held some is = λ number. by_the_batch b (changed_by some.changes) new refl found (makes_all edits held some.those) (is ∙ counted-line some.changes counts some.are_counts) refl
batch-made old new batch b edits (Err refusal) answer found held step is = λ number. by_the_batch b (refused (refusal_of refusal)) new refl found (makes_all edits held step) is refl

-- or the open batch holds no edits any more, and is refused
pub batch-refused : (store : Store) (batch new : Option Batch) (b : Batch) (refusal : spec.Refusal) (answer : Answer) → batch ≡ Some b → IsCommitted store b.held (refused refusal) store → new ≡ None → answer ≡ answer_of (refused refusal)
    → Does (record { store = store; batch = batch }) commits (record { store = store; batch = new }) answer
batch-refused store batch new b refusal answer found committed closed is = λ number. by_the_batch b (refused refusal) store refl found committed is (ap (λ o. record { store = store; batch = o }) closed)

-- a batch of the same edits
pub makes-same : {A : Type 0} (old new : Store) (edits others : List spec.Edit) (made : Result ChangeCounts (Refusal A)) → edits ≡ others → IfOk made (CountsSome (λ changes. Step old (a_batch edits) (changed_by changes) new))
    → IfErr made (λ refusal. Step old (a_batch edits) (refused (refusal_of refusal)) new) → Makes old others new made
makes-same old new edits others (Ok counts) same ok err = subst (λ es. CountsSome (λ changes. Step old (a_batch es) (changed_by changes) new) counts) same ok
makes-same old new edits others (Err refusal) same ok err = subst (λ es. Step old (a_batch es) (refused (refusal_of refusal)) new) same err

-- an edit was given to the open batch, and answered
pub held-answered : (store : Store) (old new : Option Batch) (b : Batch) (edit : spec.Edit) (after : HeldEdits) (answer told : Answer) → old ≡ Some b → new ≡ Some (record { line = b.line; held = after }) → IsHeld b.held edit told after → answer ≡ told
    → Does (record { store = store; batch = old }) (makes edit) (record { store = store; batch = new }) answer
held-answered store old new b edit after answer told found same how is = λ number. by_holding edit b after refl found (subst (λ a. IsHeld b.held edit a after) (sym is) how) (ap (λ o. record { store = store; batch = o }) same)

-- so was an install whose text was left aside
pub aside-answered : (store : Store) (old new : Option Batch) (name : List ℕ) (priority size : ℕ) (why : LeftAside) (text : List ℕ) (answer : Answer) → IsLeftAside store old name priority size why → length text ≡ size → new ≡ batch_behind why old → answer ≡ answer_aside why name priority
    → Does (record { store = store; batch = old }) (makes (install name priority text)) (record { store = store; batch = new }) answer
aside-answered store old new name priority size why text answer aside is same told number =
    subst (λ b. Answers number (record { store = store; batch = old }) (makes (install name priority text)) answer (record { store = store; batch = b })) (sym same)
    (subst (λ a. Answers number (record { store = store; batch = old }) (makes (install name priority text)) a (record { store = store; batch = batch_behind why old })) (sym told) (aside text is number))
