-- A line of a script, and a turn of a session.
use Rattle.cil_session.proofs.Common.{◌≡◌, ◌≢◌, ℕ, ◌+◌, ◌≤◌, Bool, true, false, List, [], ◌∷◌, ◌++◌, length, IsTrue, IsErrAnd, Option, Result, Ok, Err, inl, inr, refl, ap, sym, ◌∙◌, subst, append_assoc, append-nil, length-append, true≢false, arith, list_all, list_all-append, HasEnded, has_ended, install, remove, enable, disable, Answer, Answers, Command, makes, begins, commits, aborts, asks_rules, asks_violations, asks_dropped, asks_modules, asks_dump, line_of, behind, HasGoodWords, IsCommand, MayLackItsEnd, IsNoCommand, BeginsNoCommand, a_line, end_line, Gains, GainsFront, HasFailed, front-longer, both_true, Fits, HasStopped, EndsLine, stays, Writes, Moment, Progress, Advances, outcome_of, HasAnswered, HasBegun, Tries, HasTold, HasToldSome, Does, AreGoodWords, install_line, IsInstallOutcome, IsInstallCut, IsWhole, IsBad, IsOutcome, IsLineCut, IsTurn, IsTurnCut, Point, State, Comes, told, turn_by, turn_of, failed-later, LineFeed, LastByte, SessionFault, Read, Write}
use Rattle.std.specs.Result.{result_and}
use Rattle.cil_stream.specs.declared.sink.SinkFault.{SinkFault}
use Rattle.cil_store_specs.proofs.LineLemmas.{has-feed, command-line, no-line-command, no-last-command, no-long-command}
use Rattle.cil_session.specs.Session.{IsReadOf}
use Rattle.cil_session.specs.declared.input.LineEnd.{LineEnd}
use Rattle.cil_session.specs.declared.input.LineEnd.TheVariants.{TooLong}
use Rattle.cil_session.specs.declared.outcome.Outcome.{Outcome}
use Rattle.cil_session.specs.declared.outcome.Outcome.TheVariants.{Accepted, Refused, NoCommand}
use Rattle.cil_session.specs.declared.outcome.Turn.{Turn}
use Rattle.cil_session.specs.declared.outcome.Turn.TheVariants as turns
use Rattle.cil_session.proofs.InputLemmas.{reads-none, reads-both, stops-later, ended-within}
use Rattle.cil_session.proofs.EndLemmas.{no-text-command, on-install}
use Rattle.cil_session.proofs.ReplyLemmas.{writes-report}

-- nothing was read
pub stands : (now : Moment) → Fits now.account.count now.held → Advances now now []
stands now fits = reads-none now.account now.held fits

-- an answered call is no line that is none
abbrev is_none : Outcome → Bool
is_none NoCommand = true
is_none _ = false

some-outcome : (refuses : Bool) → NoCommand ≡ outcome_of refuses → ⊥
some-outcome true e = true≢false (ap is_none e)
some-outcome false e = true≢false (ap is_none e)

-- a command that is its line and a line feed
pub whole-line : (command : Command) (end : LineEnd) (line : List ℕ) (now : Moment) → HasGoodWords command → MayLackItsEnd command → behind command ≡ [] → end ≢ TooLong
    → (end ≡ LastByte → IsTrue (has_ended now.account) × (now.held.bytes ≡ [])) → line ≡ line_of command → IsWhole end line [] now command
whole-line command LineFeed line now good may alone short last is = (good, is, sym alone)
whole-line command LastByte line now good may alone short last is = (good, may, is, refl, (last refl).0, (last refl).1)
whole-line command TooLong line now good may alone short last is = absurd (short refl)

-- what is left of an outcome where there was a command
pub record HasCommand (outcome : Outcome) (number : ℕ) (end : LineEnd) (line : List ℕ) (old new : Moment) (before after : Progress) : Type 0 where
  pub command : Command
  pub read : List ℕ
  pub reads : Advances old new read
  pub is_whole : IsWhole end line read new command
  pub answered : HasAnswered number command outcome before after

pub some-command : (outcome : Outcome) (number : ℕ) (end : LineEnd) (line : List ℕ) (old new : Moment) (before after : Progress) → outcome ≢ NoCommand → IsOutcome outcome number end line old new before after → HasCommand outcome number end line old new before after
some-command Accepted number end line old new before after some is = record { command = is.0; read = is.1; reads = is.2; is_whole = is.3; answered = is.4 }
some-command Refused number end line old new before after some is = record { command = is.0; read = is.1; reads = is.2; is_whole = is.3; answered = is.4 }
some-command NoCommand number end line old new before after some is = absurd (some refl)

pub advances-both : (old mid new : Moment) (first second : List ℕ) → Advances old mid first → Advances mid new second → Advances old new (first ++ second)
advances-both old mid new first second a b = reads-both old.account mid.account new.account old.held mid.held new.held first second a b

good-words : (end : LineEnd) (line read : List ℕ) (now : Moment) (command : Command) → IsWhole end line read now command → length line ≤ 4096 → IsCommand command
good-words LineFeed line read now command is short = (is.0, omega (arith, short, ap length is.1))
good-words LastByte line read now command is short = (is.0, omega (arith, short, ap length is.2))
good-words TooLong line read now command is short = absurd is

-- the bytes of a line are some
some-bytes : (end : LineEnd) (line bytes more : List ℕ) (ended : Bool) (held : List ℕ) → (end ≡ LastByte → line ≢ []) → EndsLine end line bytes ended held → bytes ++ more ≢ []
some-bytes LineFeed line bytes more ended held some is e = omega (arith, ap length e, length-append bytes more, ap length is, length-append line (10 ∷ []))
some-bytes LastByte [] bytes more ended held some is e = some refl refl
some-bytes LastByte (b ∷ line) bytes more ended held some is e = omega (arith, ap length e, length-append bytes more, ap length is.0)
some-bytes TooLong line bytes more ended held some is e = omega (arith, ap length e, length-append bytes more, ap length is.2, length-append line (is.0 ∷ []))

-- no command stands where a line is bad
bad-line : (end : LineEnd) (line bytes read more : List ℕ) (mid now : Moment) → EndsLine end line bytes (has_ended mid.account) mid.held.bytes → list_all stays line ≡ true → IsBad end line read now → (IsTrue (has_ended now.account) → more ≡ [])
    → IsNoCommand ((bytes ++ read) ++ (now.held.bytes ++ more))
bad-line LineFeed line bytes read more mid now is stay (inl none) no_more =
    subst IsNoCommand (sym ((λ i. (is i ++ none.0 i) ++ (now.held.bytes ++ more)) ∙ ap (λ l. l ++ (now.held.bytes ++ more)) (append-nil (line ++ 10 ∷ [])) ∙ append_assoc line (10 ∷ []) (now.held.bytes ++ more)))
    (no-line-command line (now.held.bytes ++ more) stay none.1)
bad-line LineFeed line bytes read more mid now is stay (inr short) no_more =
    subst IsNoCommand
    (sym (append_assoc bytes read (now.held.bytes ++ more) ∙ ap (λ l. l ++ (read ++ (now.held.bytes ++ more))) is ∙ append_assoc line (10 ∷ []) (read ++ (now.held.bytes ++ more))))
    (no-text-command short.0 short.1 short.2 line read (now.held.bytes ++ more) (has_ended now.account) now.held.bytes short.3 short.4 stay short.5 (λ ended none. (λ i. none i ++ no_more ended i)))
bad-line LastByte line bytes read more mid now is stay bad no_more =
    subst IsNoCommand (sym ((λ i. (is.0 i ++ bad.0 i) ++ (bad.2 i ++ no_more bad.1 i)) ∙ append-nil (line ++ []) ∙ append-nil line)) (no-last-command line stay bad.3)
bad-line TooLong line bytes read more mid now is stay bad no_more =
    subst IsNoCommand (sym ((λ i. (is.2 i ++ bad i) ++ (now.held.bytes ++ more)) ∙ ap (λ l. l ++ (now.held.bytes ++ more)) (append-nil (line ++ is.0 ∷ []))))
    (no-long-command (line ++ is.0 ∷ []) (now.held.bytes ++ more) (list_all-append stays line (is.0 ∷ []) ∙ both_true (list_all stays line) _ stay (both_true (stays is.0) true is.1 refl)) (omega (arith, is.3, length-append line (is.0 ∷ []))))

-- the bytes of a line and of what stands behind it are those of its command
read-of : (last : Bool) (end : LineEnd) (line bytes read : List ℕ) (old mid now : Moment) (command : Command) → (last ≡ true → end ≡ LastByte) → (end ≡ LastByte → last ≡ true) → EndsLine end line bytes (has_ended mid.account) mid.held.bytes
    → length line ≤ 4096 → (end ≡ LastByte → HasEnded old.account now.account) → IsWhole end line read now command → IsReadOf last command (bytes ++ read) old now
read-of true LineFeed line bytes read old mid now command is_last is_end ends_line short ended is = let e : LineFeed ≡ LastByte = is_last refl in absurd (cc)
read-of false LastByte line bytes read old mid now command is_last is_end ends_line short ended is = absurd (true≢false (sym (is_end refl)))
read-of false LineFeed line bytes read old mid now command is_last is_end ends_line short ended is = (
  good-words LineFeed line read now command is short,
  (λ i. ends_line i ++ read) ∙ append_assoc line (10 ∷ []) read ∙ (λ i. is.1 i ++ 10 ∷ is.2 i),
)
read-of true LastByte line bytes read old mid now command is_last is_end ends_line short ended is = (
  good-words LastByte line read now command is short,
  is.1,
  (λ i. (ends_line.0 ∙ is.2) i ++ is.3 i) ∙ append-nil (line_of command),
  ended refl,
  is.5,
)
read-of last TooLong line bytes read old mid now command is_last is_end ends_line short ended is = absurd is

-- an answer of a kind was written, or the sink failed in it
pub tries-told : {W : Type 0} {taken : W → Option (List ℕ)} {failures : W → ℕ} {old new : W} {IsOf : Answer → Type 0} {result : Result Outcome SinkFault} (answer : Answer) (written : Result (Unit {0}) SinkFault) → IsOf answer
    → Writes taken failures old new answer.bytes written → result ≡ result_and written (Ok (outcome_of answer.refuses)) → Tries taken failures old new IsOf result
tries-told answer (Ok done) is writes same = subst (Tries _ _ _ _ _) (sym same) (record { ok = record { answer = answer; is_of = is; written = writes.ok; is = refl }; err = tt; failed = tt; counted = writes.counted })
tries-told answer (Err fault) is writes same = subst (Tries _ _ _ _ _) (sym same) (record { ok = tt; err = record { answer = answer; is_of = is; written = writes.err }; failed = writes.failed; counted = writes.counted })

-- a report was written, and then its last line
pub tries-report : {W : Type 0} {taken : W → Option (List ℕ)} {failures : W → ℕ} {old mid new : W} {IsOf : Answer → Type 0} {n size : ℕ} {result : Result Outcome SinkFault} (text : List ℕ) (written : Result (Unit {0}) SinkFault) → IsOf (a_line (text ++ end_line size)) → n ≡ size
    → Gains (taken old) (taken mid) text → failures old ≤ failures mid → Writes taken failures mid new (end_line n) written → result ≡ result_and written (Ok Accepted) → Tries taken failures old new IsOf result
tries-report {size = size} text written is same gains before more by = tries-told (a_line (text ++ end_line size)) written is (writes-report _ _ _ _ _ text _ size written same gains before more) by

-- or the sink failed in the report
pub tries-cut : {W : Type 0} {taken : W → Option (List ℕ)} {failures : W → ℕ} {old new : W} {IsOf : Answer → Type 0} {fault : SinkFault} (text : List ℕ) (size : ℕ) → IsOf (a_line (text ++ end_line size)) → GainsFront (taken old) (taken new) text → HasFailed (failures old) (failures new)
    → failures old ≤ failures new → Tries taken failures old new IsOf (Err fault)
tries-cut text size is front failed counted = record { ok = tt; err = record { answer = _; is_of = is; written = front-longer _ _ text (end_line size) front }; failed = failed; counted = counted }

-- an answer of one kind is of another
pub tries-weaker : {W : Type 0} (taken : W → Option (List ℕ)) (failures : W → ℕ) (old new : W) (IsOf Others : Answer → Type 0) (result : Result Outcome SinkFault) → ((answer : Answer) → IsOf answer → Others answer) → Tries taken failures old new IsOf result
    → Tries taken failures old new Others result
tries-weaker taken failures old new IsOf Others (Ok outcome) weaker tries = record {
  ok = record { answer = tries.ok.answer; is_of = weaker tries.ok.answer tries.ok.is_of; written = tries.ok.written; is = tries.ok.is };
  err = tt;
  failed = tt;
  counted = tries.counted;
}
tries-weaker taken failures old new IsOf Others (Err fault) weaker tries = record {
  ok = tt;
  err = record { answer = tries.err.answer; is_of = weaker tries.err.answer tries.err.is_of; written = tries.err.written };
  failed = tries.failed;
  counted = tries.counted;
}

-- What a call did, by its result.
pub comes-done : {T : Type 0} {IsDone : T → Moment → Moment → Progress → Progress → Type 0} {IsCut : SessionFault → Moment → Moment → Progress → Progress → Type 0} {old new : Point} {x : T} → IsDone x old.moment new.moment old.progress new.progress
    → old.moment.account.failures ≤ new.moment.account.failures → old.failures ≤ new.failures → Comes IsDone IsCut old new (Ok x)
comes-done done reads writes = record { ok = done; err = tt; read = λ e. absurd (cc); write = λ e. absurd (cc); read_failures = reads; write_failures = writes }

-- the source failed
pub comes-unread : {T : Type 0} {IsDone : T → Moment → Moment → Progress → Progress → Type 0} {IsCut : SessionFault → Moment → Moment → Progress → Progress → Type 0} {old new : Point} (result : Result T SessionFault) → IsErrAnd result (λ e. e ≡ Read)
    → IsCut Read old.moment new.moment old.progress new.progress → HasFailed old.moment.account.failures new.moment.account.failures → old.moment.account.failures ≤ new.moment.account.failures → old.failures ≤ new.failures → Comes IsDone IsCut old new result
comes-unread (Ok x) is cut failed reads writes = absurd is
comes-unread {IsDone = IsDone} {IsCut = IsCut} {old = old} {new = new} (Err fault) is cut failed reads writes = subst (λ f. Comes IsDone IsCut old new (Err f)) (sym is) (record { ok = tt; err = cut; read = λ e. failed; write = λ e. absurd (cc); read_failures = reads; write_failures = writes })

-- the sink failed
pub comes-unwritten : {T : Type 0} {IsDone : T → Moment → Moment → Progress → Progress → Type 0} {IsCut : SessionFault → Moment → Moment → Progress → Progress → Type 0} {old new : Point} (result : Result T SessionFault) → IsErrAnd result (λ e. e ≡ Write)
    → IsCut Write old.moment new.moment old.progress new.progress → HasFailed old.failures new.failures → old.moment.account.failures ≤ new.moment.account.failures → old.failures ≤ new.failures → Comes IsDone IsCut old new result
comes-unwritten (Ok x) is cut failed reads writes = absurd is
comes-unwritten {IsDone = IsDone} {IsCut = IsCut} {old = old} {new = new} (Err fault) is cut failed reads writes = subst (λ f. Comes IsDone IsCut old new (Err f)) (sym is) (record { ok = tt; err = cut; read = λ e. absurd (cc); write = λ e. failed; read_failures = reads; write_failures = writes })

-- by what was told
comes-told : {W : Type 0} {IsDone : Outcome → Moment → Moment → Progress → Progress → Type 0} {IsCut : SessionFault → Moment → Moment → Progress → Progress → Type 0} {IsOf : Answer → Type 0} (taken : W → Option (List ℕ)) (failures : W → ℕ) (a b : W) (old new : Moment) (before after : State)
    (written : Result Outcome SinkFault) → (result : Result Outcome SessionFault) → result ≡ told written → Tries taken failures a b IsOf written → old.account.failures ≤ new.account.failures
    → ((outcome : Outcome) → HasTold IsOf outcome (taken a) (taken b) → IsDone outcome old new (record { state = before; taken = taken a }) (record { state = after; taken = taken b }))
    → (HasToldSome IsOf (taken a) (taken b) → IsCut Write old new (record { state = before; taken = taken a }) (record { state = after; taken = taken b }))
    → Comes IsDone IsCut (record { moment = old; progress = record { state = before; taken = taken a }; failures = failures a }) (record { moment = new; progress = record { state = after; taken = taken b }; failures = failures b }) result
comes-told taken failures a b old new before after (Ok outcome) result is tries reads done cut = subst (Comes _ _ _ _) (sym is) (comes-done (done outcome tries.ok) reads tries.counted)
comes-told taken failures a b old new before after (Err fault) result is tries reads done cut = subst (Comes _ _ _ _) (sym is) (comes-unwritten _ refl (cut tries.err) tries.failed reads tries.counted)

-- the text of an install was read, and the install answered
install-outcome : (outcome : Outcome) (name : List ℕ) (priority size : ℕ) (text : List ℕ) (old new : Moment) (before after : Progress) → Advances old new (text ++ 10 ∷ []) → length text ≡ size
    → HasTold (Does before.state (makes (install name priority text)) after.state) outcome before.taken after.taken → IsInstallOutcome outcome name priority size old new before after
install-outcome NoCommand name priority size text old new before after reads is told = absurd (some-outcome told.answer.refuses told.is)
install-outcome Accepted name priority size text old new before after reads is told = (text, reads, is, λ number. record { answer = told.answer; answers = told.is_of number; written = told.written; is = told.is })
install-outcome Refused name priority size text old new before after reads is told = (text, reads, is, λ number. record { answer = told.answer; answers = told.is_of number; written = told.written; is = told.is })

-- or the sink failed in its answer
install-begun : (name : List ℕ) (priority size : ℕ) (text : List ℕ) (old new : Moment) (before after : Progress) → Advances old new (text ++ 10 ∷ []) → length text ≡ size
    → HasToldSome (Does before.state (makes (install name priority text)) after.state) before.taken after.taken → IsInstallCut Write name priority size old new before after
install-begun name priority size text old new before after reads is told = (text, reads, is, λ number. record { answer = told.answer; answers = told.is_of number; written = told.written })

-- an install was answered behind its text
pub comes-install : {W : Type 0} {name : List ℕ} {priority size : ℕ} {taken : W → Option (List ℕ)} {failures : W → ℕ} {a b : W} {old new : Moment} {before after : State} (text : List ℕ) (written : Result Outcome SinkFault) {result : Result Outcome SessionFault} → Advances old new (text ++ 10 ∷ []) → length text ≡ size
    → old.account.failures ≤ new.account.failures → Tries taken failures a b (Does before (makes (install name priority text)) after) written → result ≡ told written
    → Comes (λ outcome. IsInstallOutcome outcome name priority size) (λ fault. IsInstallCut fault name priority size) (record { moment = old; progress = record { state = before; taken = taken a }; failures = failures a }) (record { moment = new; progress = record { state = after; taken = taken b }; failures = failures b }) result
comes-install {name = name} {priority = priority} {size = size} {taken = taken} {failures = failures} {a = a} {b = b} {old = old} {new = new} {before = before} {after = after} text written {result = result} advances is reads tries same =
    comes-told taken failures a b old new before after written result same tries reads (λ outcome. install-outcome outcome name priority size text old new _ _ advances is) (install-begun name priority size text old new _ _ advances is)

-- a command was answered that is whole with its line
pub comes-line : {W : Type 0} {number : ℕ} {end : LineEnd} {line : List ℕ} {taken : W → Option (List ℕ)} {failures : W → ℕ} {a b : W} {now : Moment} {before after : State} (command : Command) (written : Result Outcome SinkFault) {result : Result Outcome SessionFault} → Fits now.account.count now.held → IsWhole end line [] now command
    → Tries taken failures a b (λ answer. Answers number before command answer after) written → result ≡ told written
    → Comes (λ outcome. IsOutcome outcome number end line) (λ fault. IsLineCut fault number end line) (record { moment = now; progress = record { state = before; taken = taken a }; failures = failures a }) (record { moment = now; progress = record { state = after; taken = taken b }; failures = failures b }) result
comes-line {number = number} {end = end} {line = line} {taken = taken} {failures = failures} {a = a} {b = b} {now = now} {before = before} {after = after} command written {result = result} fits is_whole tries same =
    comes-told taken failures a b now now before after written result same tries (omega arith) answered (λ some. inr (command, [], stands now fits, is_whole, record { answer = some.answer; answers = some.is_of; written = some.written }))
  where
    answered : (outcome : Outcome) → HasTold (λ answer. Answers number before command answer after) outcome (taken a) (taken b) → IsOutcome outcome number end line now now (record { state = before; taken = taken a }) (record { state = after; taken = taken b })
    answered NoCommand some = absurd (some-outcome some.answer.refuses some.is)
    answered Accepted some = (command, [], stands now fits, is_whole, record { answer = some.answer; answers = some.is_of; written = some.written; is = some.is })
    answered Refused some = (command, [], stands now fits, is_whole, record { answer = some.answer; answers = some.is_of; written = some.written; is = some.is })

-- a line that is none had nothing done
pub comes-none : {number : ℕ} {end : LineEnd} {line : List ℕ} {now : Point} → Fits now.moment.account.count now.moment.held → IsBad end line [] now.moment
    → Comes (λ outcome. IsOutcome outcome number end line) (λ fault. IsLineCut fault number end line) now now (Ok NoCommand)
comes-none {now = now} fits bad = comes-done ([], stands now.moment fits, bad, refl) (omega arith) (omega arith)

-- a line that is none whatever it ends with
pub bad-anyhow : (end : LineEnd) (line : List ℕ) (now : Moment) → ((command : Command) → HasGoodWords command → line ≡ line_of command → ⊥) → (end ≡ LastByte → IsTrue (has_ended now.account) × (now.held.bytes ≡ [])) → IsBad end line [] now
bad-anyhow LineFeed line now none last = inl (refl, none)
bad-anyhow LastByte line now none last = (refl, (last refl).0, (last refl).1, λ command words may. none command words)
bad-anyhow TooLong line now none last = refl

-- a line that is neither too long nor the last ended with its line feed
feed-ends : (end : LineEnd) → end ≢ TooLong → end ≢ LastByte → end ≡ LineFeed
feed-ends LineFeed short more = refl
feed-ends LastByte short more = absurd (more refl)
feed-ends TooLong short more = absurd (short refl)

-- what came of the text of an install came of its line
whole-install : (name : List ℕ) (priority size : ℕ) (line text : List ℕ) (now : Moment) → AreGoodWords name priority size → line ≡ install_line name priority size → length text ≡ size → IsWhole LineFeed line (text ++ 10 ∷ []) now (makes (install name priority text))
whole-install name priority size line text now good is same = ((good.good_name, good.short_priority, omega (arith, same, good.short_size)), is ∙ ap (install_line name priority) (sym same), refl)

install-line : (outcome : Outcome) (number : ℕ) (name : List ℕ) (priority size : ℕ) (line : List ℕ) (old new : Moment) (before after : Progress) → AreGoodWords name priority size → line ≡ install_line name priority size → IsInstallOutcome outcome name priority size old new before after
    → IsOutcome outcome number LineFeed line old new before after
install-line NoCommand number name priority size line old new before after good is (read, reads, short, same) = (read, reads, inr (name, priority, size, good, is, short), same)
install-line Accepted number name priority size line old new before after good is (text, reads, same, answered) = (makes (install name priority text), text ++ 10 ∷ [], reads, whole-install name priority size line text new good is same, answered number)
install-line Refused number name priority size line old new before after good is (text, reads, same, answered) = (makes (install name priority text), text ++ 10 ∷ [], reads, whole-install name priority size line text new good is same, answered number)

install-line_cut : (fault : SessionFault) (number : ℕ) (name : List ℕ) (priority size : ℕ) (line : List ℕ) (old new : Moment) (before after : Progress) → AreGoodWords name priority size → line ≡ install_line name priority size → IsInstallCut fault name priority size old new before after
    → IsLineCut fault number LineFeed line old new before after
install-line_cut Read number name priority size line old new before after good is (read, stops, within, same) = (refl, name, priority, size, good, is, read, stops, within, same)
install-line_cut Write number name priority size line old new before after good is (text, reads, same, begun) = inr (makes (install name priority text), text ++ 10 ∷ [], reads, whole-install name priority size line text new good is same, begun number)

-- what a call did behind another, which read nothing
comes-later : {T : Type 0} {IsDone Others : T → Moment → Moment → Progress → Progress → Type 0} {IsCut AreCut : SessionFault → Moment → Moment → Progress → Progress → Type 0} (old mid new : Point) (result : Result T SessionFault)
    → ((x : T) → IsDone x mid.moment new.moment mid.progress new.progress → Others x old.moment new.moment old.progress new.progress) → ((fault : SessionFault) → IsCut fault mid.moment new.moment mid.progress new.progress → AreCut fault old.moment new.moment old.progress new.progress)
    → old.moment.account.failures ≤ mid.moment.account.failures → old.failures ≤ mid.failures → Comes IsDone IsCut mid new result → Comes Others AreCut old new result
comes-later old mid new (Ok x) done cut reads writes came = comes-done (done x came.ok) (omega (arith, reads, came.read_failures)) (omega (arith, writes, came.write_failures))
comes-later old mid new (Err Read) done cut reads writes came =
    comes-unread _ refl (cut Read came.err) (failed-later _ _ _ reads (came.read refl)) (omega (arith, reads, came.read_failures)) (omega (arith, writes, came.write_failures))
comes-later old mid new (Err Write) done cut reads writes came =
    comes-unwritten _ refl (cut Write came.err) (failed-later _ _ _ writes (came.write refl)) (omega (arith, reads, came.read_failures)) (omega (arith, writes, came.write_failures))

-- an install was answered behind a flush, by its line
pub comes-behind_flush : {number : ℕ} {end : LineEnd} {line : List ℕ} {name : List ℕ} {priority size : ℕ} {now : Moment} {state : State} {taken flushed : Option (List ℕ)} {failures more : ℕ} {new : Point} {result : Result Outcome SessionFault} → end ≢ TooLong → end ≢ LastByte
    → AreGoodWords name priority size → line ≡ install_line name priority size → flushed ≡ taken → failures ≤ more
    → Comes (λ outcome. IsInstallOutcome outcome name priority size) (λ fault. IsInstallCut fault name priority size) (record { moment = now; progress = record { state = state; taken = flushed }; failures = more }) new result
    → Comes (λ outcome. IsOutcome outcome number end line) (λ fault. IsLineCut fault number end line) (record { moment = now; progress = record { state = state; taken = taken }; failures = failures }) new result
comes-behind_flush {number = number} {end = end} {line = line} {name = name} {priority = priority} {size = size} {now = now} {state = state} {taken = taken} {failures = failures} {more = more} {new = new} {result = result} short last good is same before came =
    subst (λ e. Comes (λ outcome. IsOutcome outcome number e line) (λ fault. IsLineCut fault number e line) (record { moment = now; progress = record { state = state; taken = taken }; failures = failures }) new result) (sym (feed-ends end short last))
    (comes-later _ (record { moment = now; progress = record { state = state; taken = taken }; failures = more }) new result
    (λ outcome. install-line outcome number name priority size line now new.moment _ new.progress good is) (λ fault. install-line_cut fault number name priority size line now new.moment _ new.progress good is) (omega arith) before
    (subst (λ t. Comes (λ outcome. IsInstallOutcome outcome name priority size) (λ fault. IsInstallCut fault name priority size) (record { moment = now; progress = record { state = state; taken = t }; failures = more }) new result) same came))

-- a command that may lack its line feed has nothing behind its line
pub none-behind : (command : Command) → MayLackItsEnd command → behind command ≡ []
none-behind (makes (install name priority text)) may = absurd may
none-behind (makes (remove name priority)) may = refl
none-behind (makes (enable name)) may = refl
none-behind (makes (disable name)) may = refl
none-behind begins may = refl
none-behind commits may = refl
none-behind aborts may = refl
none-behind asks_rules may = refl
none-behind asks_violations may = refl
none-behind asks_dropped may = refl
none-behind asks_modules may = refl
none-behind asks_dump may = refl

-- the line of an install is none without its line feed
pub bad-install : (name : List ℕ) (priority size : ℕ) (end : LineEnd) (line : List ℕ) (now : Moment) → AreGoodWords name priority size → line ≡ install_line name priority size → end ≡ LastByte → (end ≡ LastByte → IsTrue (has_ended now.account) × (now.held.bytes ≡ [])) → IsBad end line [] now
bad-install name priority size end line now good is lasts ended = subst (λ e. IsBad e line [] now) (sym lasts) (refl, (ended lasts).0, (ended lasts).1, λ command words may e. none command may (on-install name priority size command good words (sym is ∙ e)))
  where
    none : (command : Command) → MayLackItsEnd command → (text : List ℕ) × (length text ≡ size) × (behind command ≡ text ++ 10 ∷ []) → ⊥
    none command may (text, long, more) = omega (arith, ap length (sym more ∙ none-behind command may), length-append text (10 ∷ []))

-- a call failed, whose fault `?` passes on, behind what was done before
pub comes-failed : {T U : Type 0} {IsDone : T → Moment → Moment → Progress → Progress → Type 0} {Others : U → Moment → Moment → Progress → Progress → Type 0} {IsCut AreCut : SessionFault → Moment → Moment → Progress → Progress → Type 0} {old mid new : Point} {fault : SessionFault} (result : Result U SessionFault)
    → IsErrAnd result (λ e. e ≡ fault) → (IsCut fault mid.moment new.moment mid.progress new.progress → AreCut fault old.moment new.moment old.progress new.progress) → old.moment.account.failures ≤ mid.moment.account.failures → old.failures ≤ mid.failures
    → Comes IsDone IsCut mid new (Err fault) → Comes Others AreCut old new result
comes-failed (Ok x) is cut reads writes came = absurd is
comes-failed {Others = Others} {AreCut = AreCut} {old = old} {mid = mid} {new = new} {fault = fault} (Err e) is cut reads writes came =
    subst (λ f. Comes Others AreCut old new (Err f)) (sym is) (record {
      ok = tt;
      err = cut came.err;
      read = λ r. failed-later _ _ _ reads (came.read (cc));
      write = λ w. failed-later _ _ _ writes (came.write (cc));
      read_failures = omega (arith, reads, came.read_failures);
      write_failures = omega (arith, writes, came.write_failures);
    })

-- the fault is that which `?` passed on
pub fault-is : {T : Type 0} (r : Result T SessionFault) (fault this : SessionFault) → IsErrAnd r (λ e. e ≡ fault) → r ≡ Err this → fault ≡ this
fault-is (Ok x) fault this is e = absurd (cc)
fault-is (Err x) fault this is e = cc

-- What was read of a line.
pub record HasLine (end : LineEnd) (line : List ℕ) (old mid : Moment) : Type 0 where
  pub bytes : List ℕ
  pub reads : Advances old mid bytes
  pub ends : EndsLine end line bytes (has_ended mid.account) mid.held.bytes
  pub short : length line ≤ 4096
  pub stay : list_all stays line ≡ true
  pub ended : end ≡ LastByte → HasEnded old.account mid.account
  pub some : end ≡ LastByte → line ≢ []

-- a line was a command, and answered
turn-answered : (outcome : Outcome) (refused last : Bool) (number : ℕ) (end : LineEnd) (line : List ℕ) (old mid now : Moment) (before after : Progress) → HasLine end line old mid → outcome ≡ outcome_of refused → number ≡ 1 + old.held.line_feeds → (last ≡ true → end ≡ LastByte)
    → (end ≡ LastByte → last ≡ true) → IsOutcome outcome number end line mid now before after → IsTurn (turns.Answered refused last) old now before after
turn-answered outcome refused last number end line old mid now before after has is at is_last is_end came =
    let had = some-command outcome number end line mid now before after (λ e. some-outcome refused (sym e ∙ is)) came in (
      had.command,
      has.bytes ++ had.read,
      advances-both old mid now has.bytes had.read has.reads had.reads,
      read-of last end line has.bytes had.read old mid now had.command is_last is_end has.ends has.short (λ e. ended-within old.account old.account mid.account now.account (omega arith) (has.ended e) had.reads.takes.gives.ends) had.is_whole,
      subst (λ o. HasAnswered (1 + old.held.line_feeds) had.command o before after) is (subst (λ n. HasAnswered n had.command outcome before after) at had.answered),
    )

-- there was no command
turn-none : (number : ℕ) (end : LineEnd) (line : List ℕ) (old mid now : Moment) (before after : Progress) → HasLine end line old mid → IsOutcome NoCommand number end line mid now before after → IsTurn turns.NoCommand old now before after
turn-none number end line old mid now before after has (read, more_reads, bad, same) = (
  has.bytes ++ read,
  advances-both old mid now has.bytes read has.reads more_reads,
  λ more no_more. (
    subst (λ l. l ≢ []) (sym (append_assoc has.bytes read (now.held.bytes ++ more))) (some-bytes end line has.bytes (read ++ (now.held.bytes ++ more)) (has_ended mid.account) mid.held.bytes has.some has.ends),
    bad-line end line has.bytes read more mid now has.ends has.stay bad no_more,
  ),
  same,
)

-- the source or the sink failed behind a line
cut-behind_line : (fault : SessionFault) (last : Bool) (number : ℕ) (end : LineEnd) (line : List ℕ) (old mid now : Moment) (before after : Progress) → HasLine end line old mid → number ≡ 1 + old.held.line_feeds → (last ≡ true → end ≡ LastByte) → (end ≡ LastByte → last ≡ true)
    → IsLineCut fault number end line mid now before after → IsTurnCut fault old now before after
cut-behind_line Read last number end line old mid now before after has at is_last is_end (is, name, priority, size, good, spells, read, stops, within, same) =
    let feed : has.bytes ≡ line ++ 10 ∷ [] = subst (λ e. EndsLine e line has.bytes (has_ended mid.account) mid.held.bytes) is has.ends in
    let none : IsNoCommand (line ++ 10 ∷ (read ++ [])) = no-text-command name priority size line read [] true [] good spells has.stay (inl (within, refl, refl)) (λ e f. refl) in (
      has.bytes ++ read,
      stops-later old.account mid.account now.account old.held mid.held now.held has.bytes read has.reads stops,
      subst BeginsNoCommand (ap (λ l. line ++ 10 ∷ l) (append-nil read) ∙ sym (append_assoc line (10 ∷ []) read) ∙ ap (λ l. l ++ read) (sym feed)) none.0,
      same,
    )
cut-behind_line Write last number end line old mid now before after has at is_last is_end (inl (more, same)) = inl (has.bytes ++ [], advances-both old mid now has.bytes [] has.reads more, same)
cut-behind_line Write last number end line old mid now before after has at is_last is_end (inr (command, read, more, is, begun)) = inr (
  last,
  command,
  has.bytes ++ read,
  advances-both old mid now has.bytes read has.reads more,
  read-of last end line has.bytes read old mid now command is_last is_end has.ends has.short (λ e. ended-within old.account old.account mid.account now.account (omega arith) (has.ended e) more.takes.gives.ends) is,
  subst (λ n. HasBegun n command before after) at begun,
)

-- the sink failed before a turn, in a flush
pub comes-unflushed : {now : Moment} {state : State} {taken flushed : Option (List ℕ)} {failures more : ℕ} (result : Result Turn SessionFault) → IsErrAnd result (λ e. e ≡ Write) → Fits now.account.count now.held → flushed ≡ taken → HasFailed failures more → failures ≤ more
    → Comes IsTurn IsTurnCut (record { moment = now; progress = record { state = state; taken = taken }; failures = failures }) (record { moment = now; progress = record { state = state; taken = flushed }; failures = more }) result
comes-unflushed {now = now} {state = state} result is fits same failed counted = comes-unwritten result is (inl ([], stands now fits, ap (λ t. record { state = state; taken = t }) same)) failed (omega arith) counted

-- the source failed in a line
pub comes-no_line : {old new : Moment} {state : State} {taken flushed : Option (List ℕ)} {failures more : ℕ} (line : List ℕ) (result : Result Turn SessionFault) → IsErrAnd result (λ e. e ≡ Read) → HasStopped old.account new.account old.held new.held line → list_all stays line ≡ true → flushed ≡ taken
    → HasFailed old.account.failures new.account.failures → old.account.failures ≤ new.account.failures → failures ≤ more
    → Comes IsTurn IsTurnCut (record { moment = old; progress = record { state = state; taken = taken }; failures = failures }) (record { moment = new; progress = record { state = state; taken = flushed }; failures = more }) result
comes-no_line {state = state} line result is stops stay same failed counted more =
    comes-unread result is (line, stops, (λ command rest good e. has-feed (line_of command) (behind command ++ rest) (sym (ap (list_all stays) (e ∙ command-line command rest)) ∙ stay)), ap (λ t. record { state = state; taken = t }) same) failed counted more

-- a turn by what came of its line, behind a flush
pub comes-turn : {end : LineEnd} {line : List ℕ} {old mid : Moment} {state : State} {taken flushed : Option (List ℕ)} {failures more : ℕ} {new : Point} {result : Result Turn SessionFault} (number : ℕ) (last : Bool) (answered : Result Outcome SessionFault) → HasLine end line old mid → number ≡ 1 + old.held.line_feeds
    → (last ≡ true → end ≡ LastByte) → (end ≡ LastByte → last ≡ true) → flushed ≡ taken → old.account.failures ≤ mid.account.failures → failures ≤ more
    → Comes (λ outcome. IsOutcome outcome number end line) (λ fault. IsLineCut fault number end line) (record { moment = mid; progress = record { state = state; taken = flushed }; failures = more }) new answered → result ≡ turn_of last answered
    → Comes IsTurn IsTurnCut (record { moment = old; progress = record { state = state; taken = taken }; failures = failures }) new result
comes-turn {end = end} {line = line} {old = old} {mid = mid} {state = state} {taken = taken} {failures = failures} {more = more} {new = new} number last answered has at is_last is_end same reads writes came is =
    subst (Comes IsTurn IsTurnCut (record { moment = old; progress = start; failures = failures }) new) (sym is)
    (turned answered (comes-later (record { moment = old; progress = start; failures = failures }) (record { moment = mid; progress = start; failures = more }) new answered by
    (λ fault. cut-behind_line fault last number end line old mid new.moment start new.progress has at is_last is_end) reads writes
    (subst (λ t. Comes (λ outcome. IsOutcome outcome number end line) (λ fault. IsLineCut fault number end line) (record { moment = mid; progress = record { state = state; taken = t }; failures = more }) new answered) same came)))
  where
    start : Progress
    start = record { state = state; taken = taken }

    by : (outcome : Outcome) → IsOutcome outcome number end line mid new.moment start new.progress → IsTurn (turn_by last outcome) old new.moment start new.progress
    by Accepted done = turn-answered Accepted false last number end line old mid new.moment start new.progress has refl at is_last is_end done
    by Refused done = turn-answered Refused true last number end line old mid new.moment start new.progress has refl at is_last is_end done
    by NoCommand done = turn-none number end line old mid new.moment start new.progress has done

    turned : {start : Point} (r : Result Outcome SessionFault) → Comes (λ outcome. IsTurn (turn_by last outcome)) IsTurnCut start new r → Comes IsTurn IsTurnCut start new (turn_of last r)
    turned (Ok outcome) c = comes-done c.ok c.read_failures c.write_failures
    turned (Err fault) c = record { ok = tt; err = c.err; read = λ e. c.read (cc); write = λ e. c.write (cc); read_failures = c.read_failures; write_failures = c.write_failures }
