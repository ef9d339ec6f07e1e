-- What sessions keep, and what they leave.
use Rattle.cil_session.proofs.Common.{◌≡◌, ◌⊎◌, ℕ, ◌+◌, Bool, true, false, List, [], ◌∷◌, ◌++◌, length, codes, Option, Some, None, IsTrue, refl, ap, sym, ◌∙◌, subst, AllByRecursion, both_true, Store, IsStore, empty, modules_text, Edit, by_store, at_place, for_memory, batch_word, is_too_long, IsMeaningOf, Call, a_batch, an_edit, ask_rows, ask_violations, ask_dropped, Reply, changed_by, refused, listed, printed, violated, dropped_optionals, is_answered, out_of_memory, Step, Run, Command, makes, begins, commits, aborts, asks_rules, asks_violations, asks_dropped, asks_modules, asks_dump, refusal_line, end_line, dump_commands, dump_text, Answer, answer_of, a_line, a_refusal, HeldEdits, all_held, over_the_limits, without_memory, Batch, State, state_of, name_of, held_as, IsHeld, holds, passes_the_limits, has_no_memory, after_the_limits, after_no_memory, IsCommitted, makes_all, was_too_long, had_no_memory, question_of, Answers, by_the_edit, by_holding, by_opening, is_open, by_the_batch, by_closing, none_to_commit, none_to_abort, by_engine, by_modules, by_dump, lines_of, AnswersAll, answers_text, IsSession, all_accepted, some_refused, last_end, one-script}
use Rattle.cil_specs.specs.Meaning.{Meaning, meaning_of}
use Rattle.cil_store_specs.specs.Limits.{IsWithinLimits, HasGoodTexts}
use Rattle.cil_store_specs.specs.Session.{Status, status_of}
use Rattle.cil_store_specs.proofs.StoreOrder.{empty-ordered, step-ordered, run-ordered}
use Rattle.cil_store_specs.proofs.LimitLemmas.{empty-within, run-within, empty-texts, run-texts}
use Rattle.cil_store_specs.proofs.HeldLemmas.{opened}
use Rattle.cil_store_specs.proofs.OneRun.{run-same}
use Rattle.cil_store_specs.proofs.DumpSession.{dump-taken-back}
use Rattle.cil_store.proofs.NothingLemmas.{none-meant}
use Rattle.cil_store.proofs.MeantLemmas.{run-meant}

-- some call leads from one store to another
abbrev SomeStep : Store → Store → Type 0
SomeStep old new = (call : Call) × (reply : Reply) × Step old call reply new

-- what keeps the store leads where a call does for which memory runs out
kept-step : (old new : Store) → new ≡ old → SomeStep old new
kept-step old new same = (ask_rows, refused for_memory, out_of_memory refl same)

-- a commit is a call, or keeps the store
commit-step : (old : Store) (held : HeldEdits) (reply : Reply) (new : Store) → IsCommitted old held reply new → SomeStep old new
commit-step old held reply new (makes_all edits was step) = (a_batch edits, reply, step)
commit-step old held reply new (was_too_long was told same) = kept-step old new same
commit-step old held reply new (had_no_memory was told same) = kept-step old new same

-- so is each command
answer-step : (line : ℕ) (old : State) (command : Command) (answer : Answer) (new : State) → Answers line old command answer new → SomeStep old.store new.store
answer-step line old command answer new (by_the_edit edit reply store is none step told same) = subst (SomeStep old.store) (sym (ap (λ s. s.store) same)) (an_edit edit, reply, step)
answer-step line old command answer new (by_holding edit batch held is found how same) = kept-step old.store new.store (ap (λ s. s.store) same)
answer-step line old command answer new (by_opening is none told same) = kept-step old.store new.store (ap (λ s. s.store) same)
answer-step line old command answer new (is_open batch is found told same) = kept-step old.store new.store (ap (λ s. s.store) same)
answer-step line old command answer new (by_the_batch batch reply store is found made told same) = subst (SomeStep old.store) (sym (ap (λ s. s.store) same)) (commit-step old.store batch.held reply store made)
answer-step line old command answer new (by_closing batch is found told same) = kept-step old.store new.store (ap (λ s. s.store) same)
answer-step line old command answer new (none_to_commit is none told same) = kept-step old.store new.store (ap (λ s. s.store) same)
answer-step line old command answer new (none_to_abort is none told same) = kept-step old.store new.store (ap (λ s. s.store) same)
answer-step line old command answer new (by_engine call reply is step told same) = kept-step old.store new.store (ap (λ s. s.store) same)
answer-step line old command answer new (by_modules is told same) = kept-step old.store new.store (ap (λ s. s.store) same)
answer-step line old command answer new (by_dump is told same) = kept-step old.store new.store (ap (λ s. s.store) same)

-- some run leads from one store to another
abbrev SomeRun : Store → Store → Type 0
SomeRun old new = (calls : List Call) × (replies : List Reply) × Run old calls replies new

-- the answers to commands are those of a run
answers-run : (line : ℕ) (old : State) (commands : List Command) (answers : List Answer) (new : State) → AnswersAll line old commands answers new → SomeRun old.store new.store
answers-run line old [] [] new all = ([], [], ap (λ s. s.store) all)
answers-run line old [] (a ∷ answers) new all = absurd all
answers-run line old (c ∷ commands) [] new all = absurd all
answers-run line old (c ∷ commands) (a ∷ answers) new (mid, answered, all) =
    let (call, reply, step) = answer-step line old c a mid answered in
    let (calls, replies, run) = answers-run (line + lines_of c) mid commands answers new all in
    (call ∷ calls, reply ∷ replies, (mid.store, step, run))

-- A session leads where a run does, and so it keeps what runs keep.
session-run : (given : List ℕ) (ended : Bool) (old new : Store) (written : List ℕ) (status : Status) → IsSession given ended old new written status → SomeRun old new
session-run given ended old new written status session = subst (SomeRun old) (sym session.store_is) (answers-run 1 (state_of old) session.commands session.answers session.last session.answered)

pub session-ordered : (given : List ℕ) (ended : Bool) (old new : Store) (written : List ℕ) (status : Status) → IsStore old → IsSession given ended old new written status → IsStore new
session-ordered given ended old new written status is session = let (calls, replies, run) = session-run given ended old new written status session in run-ordered old new calls replies is run

pub session-within : (given : List ℕ) (ended : Bool) (old new : Store) (written : List ℕ) (status : Status) → IsWithinLimits old → IsSession given ended old new written status → IsWithinLimits new
session-within given ended old new written status is session = let (calls, replies, run) = session-run given ended old new written status session in run-within old new calls replies is run

pub session-texts : (given : List ℕ) (ended : Bool) (old new : Store) (written : List ℕ) (status : Status) → HasGoodTexts old → IsSession given ended old new written status → HasGoodTexts new
session-texts given ended old new written status are session = let (calls, replies, run) = session-run given ended old new written status session in run-texts old new calls replies are run

pub session-meant : (given : List ℕ) (ended : Bool) (old new : Store) (written : List ℕ) (status : Status) (meaning : Meaning) → IsMeaningOf old meaning → IsSession given ended old new written status → (other : Meaning) × IsMeaningOf new other
session-meant given ended old new written status meaning is session = let (calls, replies, run) = session-run given ended old new written status session in run-meant old new calls replies meaning is run

-- The dump of what a session leaves is taken back.
pub left-taken-back : (given written text : List ℕ) (ended : Bool) (store new : Store) (status last : Status) → IsSession given ended empty store written status → (session : IsSession (dump_text store) true empty new text last)
    → ((last ≡ all_accepted) × (new ≡ store)) ⊎ ((last ≡ some_refused) × (new ≡ empty) × AllByRecursion (λ a. a.refuses ≡ true → a.bytes ≡ refusal_line for_memory) session.answers)
left-taken-back given written text ended store new status last made session =
    let (meaning, meant) = session-meant given ended empty store written status (meaning_of [] []) none-meant made in
    dump-taken-back store new meaning text last (session-ordered given ended empty store written status empty-ordered made) (session-within given ended empty store written status empty-within made)
    (session-texts given ended empty store written status empty-texts made) meant session

-- What a command does where memory doesn't run out: it tells an answer, or makes a call.
data Way : Type 0 where
  tells : Answer → State → Way
  calls : Call → Option Batch → Way
  lacks_memory : Way

-- what an edit does that is given to an open batch
abbrev holding : Store → ℕ → Edit → List Edit → Bool → Way
holding store line edit edits true = tells (a_refusal 35 (name_of edit)) (opened store line over_the_limits)
holding store line edit edits false = tells (a_line (codes "held\n")) (opened store line (all_held (edits ++ held_as edit ∷ [])))

abbrev holding_way : Store → ℕ → Edit → HeldEdits → Way
holding_way store line edit (all_held edits) = holding store line edit edits (is_too_long (edits ++ edit ∷ []))
holding_way store line edit over_the_limits = tells (a_refusal 35 (name_of edit)) (opened store line over_the_limits)
holding_way store line edit without_memory = lacks_memory

-- what the commit of a batch does
abbrev commit_way : Store → HeldEdits → Way
commit_way store (all_held edits) = calls (a_batch edits) None
commit_way store over_the_limits = tells (a_refusal 35 batch_word) (state_of store)
commit_way store without_memory = lacks_memory

-- what a command on a line does
abbrev way_of : ℕ → Store → Option Batch → Command → Way
way_of line store None (makes edit) = calls (an_edit edit) None
way_of line store (Some batch) (makes edit) = holding_way store batch.line edit batch.held
way_of line store None begins = tells (a_line (codes "open\n")) (opened store line (all_held []))
way_of line store (Some batch) begins = tells (a_refusal 36 (codes "begin")) (record { store = store; batch = Some batch })
way_of line store None commits = tells (a_refusal 37 (codes "commit")) (state_of store)
way_of line store (Some batch) commits = commit_way store batch.held
way_of line store None aborts = tells (a_refusal 37 (codes "abort")) (state_of store)
way_of line store (Some batch) aborts = tells (a_line (codes "closed\n")) (state_of store)
way_of line store batch asks_rules = calls ask_rows batch
way_of line store batch asks_violations = calls ask_violations batch
way_of line store batch asks_dropped = calls ask_dropped batch
way_of line store batch asks_modules = tells (a_line (modules_text store ++ end_line (length store.entries))) (record { store = store; batch = batch })
way_of line store batch asks_dump = tells (a_line (dump_text store ++ end_line (length (dump_commands store)))) (record { store = store; batch = batch })

-- an answer doesn't say that memory ran out
abbrev HadMemory : Answer → Type 0
HadMemory answer = answer.bytes ≡ refusal_line for_memory → ⊥

-- the answer of a command that does this, and the state behind it
abbrev Follows : Store → Way → Answer → State → Type 0
Follows old (tells told after) answer new = (answer ≡ told) × (new ≡ after)
Follows old (calls call batch) answer new = (reply : Reply) × (store : Store) × IsTrue (is_answered reply) × Step old call reply store × (answer ≡ answer_of reply) × (new ≡ record { store = store; batch = batch })
Follows old lacks_memory answer new = ⊥

-- so its call was answered
reply-answered : (reply : Reply) → HadMemory (answer_of reply) → IsTrue (is_answered reply)
reply-answered (changed_by changes) had = refl
reply-answered (refused (by_store code word)) had = refl
reply-answered (refused (at_place code name at word)) had = refl
reply-answered (refused for_memory) had = absurd (had refl)
reply-answered (listed rows) had = refl
reply-answered (printed bytes) had = refl
reply-answered (violated violations) had = refl
reply-answered (dropped_optionals dropped) had = refl

-- The answer to a command follows what the command does: to one that makes a call,
called : (old : Store) (call : Call) (batch : Option Batch) (reply : Reply) (store : Store) (answer : Answer) (new : State) → HadMemory answer → Step old call reply store → answer ≡ answer_of reply → new ≡ record { store = store; batch = batch }
    → Follows old (calls call batch) answer new
called old call batch reply store answer new had step told same = (reply, store, reply-answered reply (subst HadMemory told had), step, told, same)

-- it isn't the refusal for memory
no-memory : {T : Type 0} (answer : Answer) → HadMemory answer → answer ≡ answer_of (refused for_memory) → T
no-memory answer had told = absurd (had (ap (λ a. a.bytes) told))

-- to an edit that is given to an open batch,
held-follows : (store : Store) (line : ℕ) (old : HeldEdits) (edit : Edit) (answer : Answer) (held : HeldEdits) (new : State) → HadMemory answer → IsHeld old edit answer held → new ≡ opened store line held → Follows store (holding_way store line edit old) answer new
held-follows store line old edit answer held new had (holds edits was short told now) same =
    subst (λ w. Follows store w answer new) (sym (ap (holding_way store line edit) was ∙ ap (holding store line edit edits) short)) (told, same ∙ ap (opened store line) now)
held-follows store line old edit answer held new had (passes_the_limits edits was long told now) same =
    subst (λ w. Follows store w answer new) (sym (ap (holding_way store line edit) was ∙ ap (holding store line edit edits) long)) (told, same ∙ ap (opened store line) now)
held-follows store line old edit answer held new had (has_no_memory edits was short told now) same = no-memory answer had told
held-follows store line old edit answer held new had (after_the_limits was told now) same = subst (λ w. Follows store w answer new) (sym (ap (holding_way store line edit) was)) (told, same ∙ ap (opened store line) now)
held-follows store line old edit answer held new had (after_no_memory was told now) same = no-memory answer had told

-- to a commit,
commit-follows : (old : Store) (held : HeldEdits) (reply : Reply) (store : Store) (answer : Answer) (new : State) → HadMemory answer → IsCommitted old held reply store → answer ≡ answer_of reply → new ≡ state_of store → Follows old (commit_way old held) answer new
commit-follows old held reply store answer new had (makes_all edits was step) told same = subst (λ w. Follows old w answer new) (sym (ap (commit_way old) was)) (called old (a_batch edits) None reply store answer new had step told same)
commit-follows old held reply store answer new had (was_too_long was said kept) told same = subst (λ w. Follows old w answer new) (sym (ap (commit_way old) was)) (told ∙ ap answer_of said, same ∙ ap state_of kept)
commit-follows old held reply store answer new had (had_no_memory was said kept) told same = no-memory answer had (told ∙ ap answer_of said)

-- to a question, which makes a call,
question-way : (line : ℕ) (store : Store) (batch : Option Batch) (command : Command) (call : Call) → question_of command ≡ Some call → way_of line store batch command ≡ calls call batch
question-way line store batch (makes edit) call is = absurd cc
question-way line store batch begins call is = absurd cc
question-way line store batch commits call is = absurd cc
question-way line store batch aborts call is = absurd cc
question-way line store batch asks_rules call is = let one : ask_rows ≡ call = cc is in ap (λ c. calls c batch) one
question-way line store batch asks_violations call is = let one : ask_violations ≡ call = cc is in ap (λ c. calls c batch) one
question-way line store batch asks_dropped call is = let one : ask_dropped ≡ call = cc is in ap (λ c. calls c batch) one
question-way line store batch asks_modules call is = absurd cc
question-way line store batch asks_dump call is = absurd cc

-- and to each command
answer-follows : (line : ℕ) (old : State) (command : Command) (answer : Answer) (new : State) → HadMemory answer → Answers line old command answer new → Follows old.store (way_of line old.store old.batch command) answer new
answer-follows line old command answer new had (by_the_edit edit reply store is none step told same) =
    subst (λ w. Follows old.store w answer new) (sym (λ i. way_of line old.store (none i) (is i))) (called old.store (an_edit edit) None reply store answer new had step told same)
answer-follows line old command answer new had (by_holding edit batch held is found how same) =
    subst (λ w. Follows old.store w answer new) (sym (λ i. way_of line old.store (found i) (is i))) (held-follows old.store batch.line batch.held edit answer held new had how same)
answer-follows line old command answer new had (by_opening is none told same) = subst (λ w. Follows old.store w answer new) (sym (λ i. way_of line old.store (none i) (is i))) (told, same)
answer-follows line old command answer new had (is_open batch is found told same) =
    subst (λ w. Follows old.store w answer new) (sym (λ i. way_of line old.store (found i) (is i))) (told, same ∙ ap (λ b. record { store = old.store; batch = b }) found)
answer-follows line old command answer new had (by_the_batch batch reply store is found made told same) =
    subst (λ w. Follows old.store w answer new) (sym (λ i. way_of line old.store (found i) (is i))) (commit-follows old.store batch.held reply store answer new had made told same)
answer-follows line old command answer new had (by_closing batch is found told same) = subst (λ w. Follows old.store w answer new) (sym (λ i. way_of line old.store (found i) (is i))) (told, same)
answer-follows line old command answer new had (none_to_commit is none told same) =
    subst (λ w. Follows old.store w answer new) (sym (λ i. way_of line old.store (none i) (is i))) (told, same ∙ ap (λ b. record { store = old.store; batch = b }) none)
answer-follows line old command answer new had (none_to_abort is none told same) =
    subst (λ w. Follows old.store w answer new) (sym (λ i. way_of line old.store (none i) (is i))) (told, same ∙ ap (λ b. record { store = old.store; batch = b }) none)
answer-follows line old command answer new had (by_engine call reply is step told same) =
    subst (λ w. Follows old.store w answer new) (sym (question-way line old.store old.batch command call is)) (called old.store call old.batch reply old.store answer new had step told same)
answer-follows line old command answer new had (by_modules is told same) = subst (λ w. Follows old.store w answer new) (sym (ap (way_of line old.store old.batch) is)) (told, same)
answer-follows line old command answer new had (by_dump is told same) = subst (λ w. Follows old.store w answer new) (sym (ap (way_of line old.store old.batch) is)) (told, same)

-- A command that does this has one answer.
follows-same : (old : Store) (way : Way) (answer second : Answer) (new other : State) → IsStore old → Follows old way answer new → Follows old way second other → (answer ≡ second) × (new ≡ other)
follows-same old (tells told after) answer second new other is a b = (a.0 ∙ sym b.0, a.1 ∙ sym b.1)
follows-same old (calls call batch) answer second new other is (reply, store, answered, step, told, same) (another, after, also, next, said, kept) =
    let both = run-same old store after (call ∷ []) (reply ∷ []) (another ∷ []) is (store, step, refl) (after, next, refl) (both_true (is_answered reply) true answered refl) (both_true (is_answered another) true also refl) in
    let replies : reply ≡ another = cc both.0 in
    (told ∙ ap answer_of replies ∙ sym said, same ∙ ap (λ s. record { store = s; batch = batch }) both.1 ∙ sym kept)
follows-same old lacks_memory answer second new other is a b = absurd a

-- So have commands one after another.
answers-same : (line : ℕ) (old new other : State) (commands : List Command) (answers others : List Answer) → IsStore old.store → AnswersAll line old commands answers new → AnswersAll line old commands others other
    → AllByRecursion HadMemory answers → AllByRecursion HadMemory others → (answers ≡ others) × (new ≡ other)
answers-same line old new other [] [] [] is a b had also = (refl, a ∙ sym b)
answers-same line old new other [] [] (s ∷ others) is a b had also = absurd b
answers-same line old new other [] (r ∷ answers) others is a b had also = absurd a
answers-same line old new other (c ∷ commands) [] others is a b had also = absurd a
answers-same line old new other (c ∷ commands) (r ∷ answers) [] is a b had also = absurd b
answers-same line old new other (c ∷ commands) (r ∷ answers) (s ∷ others) is (mid, first, more) (after, second, rest) had also =
    let one = follows-same old.store (way_of line old.store old.batch c) r s mid after is (answer-follows line old c r mid had.0 first) (answer-follows line old c s after also.0 second) in
    let (call, reply, step) = answer-step line old c r mid first in
    let next = answers-same (line + lines_of c) mid new other commands answers others (step-ordered old.store mid.store call reply is step) more
    (subst (λ m. AnswersAll (line + lines_of c) m commands others other) (sym one.1) rest) had.1 also.1 in
    (λ i. one.0 i ∷ next.0 i, next.1)

-- Sessions over the same bytes agree where memory doesn't run out.
pub sessions-same : (given : List ℕ) (ended also : Bool) (old new other : Store) (written text : List ℕ) (status last : Status) → IsStore old → (session : IsSession given ended old new written status)
    → (second : IsSession given also old other text last) → AllByRecursion (λ a. a.bytes ≡ refusal_line for_memory → ⊥) session.answers → AllByRecursion (λ a. a.bytes ≡ refusal_line for_memory → ⊥) second.answers
    → (written ≡ text) × (new ≡ other) × (status ≡ last)
sessions-same given ended also old new other written text status last is session second had has =
    let scripts = one-script (given ++ []) session.commands second.commands session.end second.end (session.are_commands [] (λ e. refl)) (second.are_commands [] (λ e. refl)) in
    let both = answers-same 1 (state_of old) session.last second.last second.commands session.answers second.answers is
    (subst (λ cs. AnswersAll 1 (state_of old) cs session.answers session.last) scripts.0 session.answered) second.answered had has in (
      session.are_written ∙ (λ i. answers_text (both.0 i) (last_end (scripts.1 i) ((both.1 i).batch))) ∙ sym second.are_written,
      session.store_is ∙ ap (λ s. s.store) both.1 ∙ sym second.store_is,
      session.status_is ∙ (λ i. status_of (both.0 i) (last_end (scripts.1 i) ((both.1 i).batch))) ∙ sym second.status_is,
    )
