-- What becomes of edits that are given to an open batch.
use Rattle.cil_store_specs.proofs.Common.{◌≡◌, inl, inr, ℕ, ◌+◌, ◌||◌, Bool, true, false, List, [], ◌∷◌, ◌++◌, map, length, Some, None, nat_lt, codes, refl, ap, sym, ◌∙◌, subst, append_assoc, length-append, true≢false, arith, list_any, sum_by, AllByRecursion, or_cases, ltb-true, lt-ltb, sum_by-append, Store, Edit, Refusal, for_memory, held_bytes, is_too_long, a_batch, Reply, refused, Step, makes, begins, commits, refusal_line, is_refusal, Answer, answer_of, a_line, HeldEdits, all_held, without_memory, State, state_of, held_as, IsHeld, passes_the_limits, has_no_memory, after_the_limits, after_no_memory, IsCommitted, makes_all, was_too_long, had_no_memory, Answers, by_the_edit, by_holding, by_opening, is_open, by_the_batch, by_closing, none_to_commit, none_to_abort, by_engine, by_modules, by_dump, lines_of, AnswersAll}
use Rattle.std.proofs.Common.{append-nil}
use Rattle.std.proofs.Math.Bool.{or-true}
use Rattle.cil_store_specs.specs.Answers.{holds}

-- the state of a session in which a batch is open
abbrev pub opened : Store → ℕ → HeldEdits → State
opened store line held = record { store = store; batch = Some (record { line = line; held = held }) }

-- What a begin opens, and what an edit and a commit do while a batch is open.

pub begin-given : (line : ℕ) (store : Store) (answer : Answer) (new : State) → Answers line (state_of store) begins answer new → (answer ≡ a_line (codes "open\n")) × (new ≡ opened store line (all_held []))
begin-given line store answer new (by_the_edit edit reply after is none step told same) = absurd cc
begin-given line store answer new (by_holding edit batch held is found how same) = absurd cc
begin-given line store answer new (by_opening is none told same) = (told, same)
begin-given line store answer new (is_open batch is found told same) = absurd cc
begin-given line store answer new (by_the_batch batch reply after is found made told same) = absurd cc
begin-given line store answer new (by_closing batch is found told same) = absurd cc
begin-given line store answer new (none_to_commit is none told same) = absurd cc
begin-given line store answer new (none_to_abort is none told same) = absurd cc
begin-given line store answer new (by_engine call reply is step told same) = absurd cc
begin-given line store answer new (by_modules is told same) = absurd cc
begin-given line store answer new (by_dump is told same) = absurd cc

edit-given : (line begun : ℕ) (store : Store) (held : HeldEdits) (edit : Edit) (answer : Answer) (new : State) → Answers line (opened store begun held) (makes edit) answer new
    → (after : HeldEdits) × IsHeld held edit answer after × (new ≡ opened store begun after)
edit-given line begun store held edit answer new (by_the_edit other reply after is none step told same) = absurd cc
edit-given line begun store held edit answer new (by_holding other batch after is found how same) =
    let edits : other ≡ edit = cc in
    let one : Some batch ≡ Some (record { line = begun; held = held }) = sym found in
    let batches : batch ≡ record { line = begun; held = held } = cc one in
    (after, subst (λ e. IsHeld held e answer after) edits (subst (λ b. IsHeld b.held other answer after) batches how), same ∙ ap (λ b. opened store b.line after) batches)
edit-given line begun store held edit answer new (by_opening is none told same) = absurd cc
edit-given line begun store held edit answer new (is_open batch is found told same) = absurd cc
edit-given line begun store held edit answer new (by_the_batch batch reply after is found made told same) = absurd cc
edit-given line begun store held edit answer new (by_closing batch is found told same) = absurd cc
edit-given line begun store held edit answer new (none_to_commit is none told same) = absurd cc
edit-given line begun store held edit answer new (none_to_abort is none told same) = absurd cc
edit-given line begun store held edit answer new (by_engine call reply is step told same) = absurd cc
edit-given line begun store held edit answer new (by_modules is told same) = absurd cc
edit-given line begun store held edit answer new (by_dump is told same) = absurd cc

commit-given : (line begun : ℕ) (store : Store) (held : HeldEdits) (answer : Answer) (new : State) → Answers line (opened store begun held) commits answer new
    → (reply : Reply) × (after : Store) × IsCommitted store held reply after × (answer ≡ answer_of reply) × (new ≡ state_of after)
commit-given line begun store held answer new (by_the_edit edit reply after is none step told same) = absurd cc
commit-given line begun store held answer new (by_holding edit batch after is found how same) = absurd cc
commit-given line begun store held answer new (by_opening is none told same) = absurd cc
commit-given line begun store held answer new (is_open batch is found told same) = absurd cc
commit-given line begun store held answer new (by_the_batch batch reply after is found made told same) =
    let one : Some batch ≡ Some (record { line = begun; held = held }) = sym found in
    let batches : batch ≡ record { line = begun; held = held } = cc one in
    (reply, after, subst (λ b. IsCommitted store b.held reply after) batches made, told, same)
commit-given line begun store held answer new (by_closing batch is found told same) = absurd cc
commit-given line begun store held answer new (none_to_commit is none told same) = absurd cc
commit-given line begun store held answer new (none_to_abort is none told same) = absurd cc
commit-given line begun store held answer new (by_engine call reply is step told same) = absurd cc
commit-given line begun store held answer new (by_modules is told same) = absurd cc
commit-given line begun store held answer new (by_dump is told same) = absurd cc

-- a batch with more edits is as long at least
long-more : (edits more : List Edit) → is_too_long edits ≡ true → is_too_long (edits ++ more) ≡ true
long-more edits more long = elim (or_cases (nat_lt 8192 (length edits)) (nat_lt 67108864 (sum_by held_bytes edits)) long) [
  | inl many ↦ ap (λ b. b || nat_lt 67108864 (sum_by held_bytes (edits ++ more))) (lt-ltb 8192 (length (edits ++ more)) (omega (arith, ltb-true 8192 (length edits) many, length-append edits more)))
  | inr great ↦ ap (λ b. nat_lt 8192 (length (edits ++ more)) || b) (lt-ltb 67108864 (sum_by held_bytes (edits ++ more)) (omega (arith, ltb-true 67108864 (sum_by held_bytes edits) great, sum_by-append held_bytes edits more)))
      ∙ or-true (nat_lt 8192 (length (edits ++ more)))
]

-- an answer that refuses does so by this line
abbrev pub RefusesBy : Refusal → Answer → Type 0
RefusesBy refusal answer = answer.refuses ≡ true → answer.bytes ≡ refusal_line refusal

-- a batch that doesn't hold all its edits any more
abbrev IsGivenUp : HeldEdits → Type 0
IsGivenUp held = (edits : List Edit) → held ≡ all_held edits → ⊥

given-up-held : (old : HeldEdits) (edit : Edit) (answer : Answer) (new : HeldEdits) → IsGivenUp old → IsHeld old edit answer new → (new ≡ old) × (old ≡ without_memory → RefusesBy for_memory answer)
given-up-held old edit answer new up (holds edits was short told now) = absurd (up edits was)
given-up-held old edit answer new up (passes_the_limits edits was long told now) = absurd (up edits was)
given-up-held old edit answer new up (has_no_memory edits was short told now) = absurd (up edits was)
given-up-held old edit answer new up (after_the_limits was told now) = (now ∙ sym was, λ none. absurd cc)
given-up-held old edit answer new up (after_no_memory was told now) = (now ∙ sym was, λ none refuses. ap (λ a. a.bytes) told)

given-up-committed : (old : Store) (held : HeldEdits) (reply : Reply) (new : Store) → IsGivenUp held → IsCommitted old held reply new → (new ≡ old) × (held ≡ without_memory → RefusesBy for_memory (answer_of reply))
given-up-committed old held reply new up (makes_all edits was step) = absurd (up edits was)
given-up-committed old held reply new up (was_too_long was told same) = (same, λ none. absurd cc)
given-up-committed old held reply new up (had_no_memory was told same) = (same, λ none refuses. ap (λ r. (answer_of r).bytes) told)

-- Nothing is done of it, and where memory ran out it is refused for memory alone.
given-up-answered : (line begun : ℕ) (store : Store) (held : HeldEdits) (edits : List Edit) (answers : List Answer) (new : State) → IsGivenUp held
    → AnswersAll line (opened store begun held) (map makes edits ++ commits ∷ []) answers new → (new ≡ state_of store) × (held ≡ without_memory → AllByRecursion (RefusesBy for_memory) answers)
given-up-answered line begun store held [] [] new up all = absurd all
given-up-answered line begun store held [] (a ∷ b ∷ answers) new up all = absurd all.2
given-up-answered line begun store held [] (a ∷ []) new up (mid, step, all) =
    let (reply, after, made, told, same) = commit-given line begun store held a mid step in
    let both = given-up-committed store held reply after up made in
    (all ∙ same ∙ ap state_of both.0, λ none. (subst (RefusesBy for_memory) (sym told) (both.1 none), tt))
given-up-answered line begun store held (e ∷ edits) [] new up all = absurd all
given-up-answered line begun store held (e ∷ edits) (a ∷ answers) new up (mid, step, all) =
    let (after, how, same) = edit-given line begun store held e a mid step in
    let both = given-up-held held e a after up how in
    let more = given-up-answered (line + lines_of (makes e)) begun store held edits answers new up
    (subst (λ s. AnswersAll (line + lines_of (makes e)) s (map makes edits ++ commits ∷ []) answers new) (same ∙ ap (opened store begun) both.0) all) in
    (more.0, λ none. (both.1 none, more.1 none))

-- What became of the edits of a batch at its commit: it was made; or nothing was done of it, since it was too long or memory ran out.
pub data Outcome (store : Store) (edits : List Edit) (answers : List Answer) (new : State) : Type 0 where
  was_made : (reply : Reply) → Step store (a_batch edits) reply new.store → new.batch ≡ None → list_any (λ a. a.refuses) answers ≡ is_refusal reply
      → ((refusal : Refusal) → reply ≡ refused refusal → AllByRecursion (RefusesBy refusal) answers) → Outcome store edits answers new
  was_long : is_too_long edits ≡ true → list_any (λ a. a.refuses) answers ≡ true → new ≡ state_of store → Outcome store edits answers new
  lacked_memory : AllByRecursion (RefusesBy for_memory) answers → list_any (λ a. a.refuses) answers ≡ true → new ≡ state_of store → Outcome store edits answers new

-- so it is with one more answer, which refuses nothing
pub with-line : (store : Store) (edits : List Edit) (bytes : List ℕ) (answers : List Answer) (new : State) → Outcome store edits answers new → Outcome store edits (a_line bytes ∷ answers) new
with-line store edits bytes answers new (was_made reply step none any all) = was_made reply step none any (λ refusal is. (λ refuses. absurd (true≢false (sym refuses)), all refusal is))
with-line store edits bytes answers new (was_long long any same) = was_long long any same
with-line store edits bytes answers new (lacked_memory all any same) = lacked_memory ((λ refuses. absurd (true≢false (sym refuses))), all) any same

-- what is committed of a batch that holds all its edits
committed : (store : Store) (edits : List Edit) (reply : Reply) (new : Store) → IsCommitted store (all_held edits) reply new → Step store (a_batch edits) reply new
committed store edits reply new (makes_all others was step) = let same : others ≡ edits = cc in subst (λ es. Step store (a_batch es) reply new) same step
committed store edits reply new (was_too_long was told same) = absurd cc
committed store edits reply new (had_no_memory was told same) = absurd cc

-- the rest of a batch behind an edit
edit-on : (line begun : ℕ) (store : Store) (before : List Edit) (edit : Edit) (edits : List Edit) (answer : Answer) (answers : List Answer) (after : HeldEdits) (new : State)
    → held_as edit ≡ edit → IsHeld (all_held before) edit answer after → AnswersAll line (opened store begun after) (map makes edits ++ commits ∷ []) answers new
    → (AnswersAll line (opened store begun (all_held (before ++ edit ∷ []))) (map makes edits ++ commits ∷ []) answers new → Outcome store ((before ++ edit ∷ []) ++ edits) answers new)
    → Outcome store (before ++ edit ∷ edits) (answer ∷ answers) new
edit-on line begun store before edit edits answer answers after new kept (holds es was short told now) more rest =
    let same : es ≡ before = cc in
    let held : after ≡ all_held (before ++ edit ∷ []) = now ∙ (λ i. all_held (same i ++ kept i ∷ [])) in
    let next = rest (subst (λ h. AnswersAll line (opened store begun h) (map makes edits ++ commits ∷ []) answers new) held more) in
    subst (λ a. Outcome store (before ++ edit ∷ edits) (a ∷ answers) new) (sym told)
    (with-line store (before ++ edit ∷ edits) (codes "held\n") answers new (subst (λ all. Outcome store all answers new) (append_assoc before (edit ∷ []) edits) next))
edit-on line begun store before edit edits answer answers after new kept (passes_the_limits es was long told now) more rest =
    let same : es ≡ before = cc in
    let next = given-up-answered line begun store after edits answers new (λ some is. absurd cc) more in
    was_long (subst (λ all. is_too_long all ≡ true) (append_assoc before (edit ∷ []) edits) (long-more (before ++ edit ∷ []) edits (subst (λ es. is_too_long (es ++ edit ∷ []) ≡ true) same long)))
    (ap (λ a. a.refuses || list_any (λ b. b.refuses) answers) told) next.0
edit-on line begun store before edit edits answer answers after new kept (has_no_memory es was short told now) more rest =
    let next = given-up-answered line begun store after edits answers new (λ some is. absurd cc) more in
    lacked_memory ((λ refuses. ap (λ a. a.bytes) told), next.1 now) (ap (λ a. a.refuses || list_any (λ b. b.refuses) answers) told) next.0
edit-on line begun store before edit edits answer answers after new kept (after_the_limits was told now) more rest = absurd cc
edit-on line begun store before edit edits answer answers after new kept (after_no_memory was told now) more rest = absurd cc

-- The edits of a batch are each held as they are, and then it is committed.
pub batch-answered : (line begun : ℕ) (store : Store) (before edits : List Edit) (answers : List Answer) (new : State) → AllByRecursion (λ e. held_as e ≡ e) edits
    → AnswersAll line (opened store begun (all_held before)) (map makes edits ++ commits ∷ []) answers new → Outcome store (before ++ edits) answers new
batch-answered line begun store before [] [] new kept all = absurd all
batch-answered line begun store before [] (a ∷ b ∷ answers) new kept all = absurd all.2
batch-answered line begun store before [] (a ∷ []) new kept (mid, step, all) =
    let (reply, after, made, told, same) = commit-given line begun store (all_held before) a mid step in
    let edits = subst (λ es. Step store (a_batch es) reply after) (sym (append-nil before)) (committed store before reply after made) in
    subst (λ n. Outcome store (before ++ []) (a ∷ []) n) (sym (all ∙ same)) (subst (λ b. Outcome store (before ++ []) (b ∷ []) (state_of after)) (sym told)
    (was_made reply edits refl (or-nil (is_refusal reply)) (λ refusal is. ((λ refuses. ap (λ r. (answer_of r).bytes) is), tt))))
  where
    or-nil : (b : Bool) → (b || false) ≡ b
    or-nil true = refl
    or-nil false = refl
batch-answered line begun store before (e ∷ edits) [] new kept all = absurd all
batch-answered line begun store before (e ∷ edits) (a ∷ answers) new kept (mid, step, all) =
    let (after, how, same) = edit-given line begun store (all_held before) e a mid step in
    edit-on (line + lines_of (makes e)) begun store before e edits a answers after new kept.0 how
    (subst (λ s. AnswersAll (line + lines_of (makes e)) s (map makes edits ++ commits ∷ []) answers new) same all)
    (λ more. batch-answered (line + lines_of (makes e)) begun store (before ++ e ∷ []) edits answers new kept.1 more)
