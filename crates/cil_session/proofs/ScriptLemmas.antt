-- A session, one turn after another.
use Rattle.cil_session.proofs.Common.{◌≡◌, ◌≢◌, ℕ, ◌+◌, ◌-◌, ◌^◌, ◌<◌, ◌≤◌, ◌||◌, Bool, true, false, List, [], ◌∷◌, ◌++◌, length, take, drop, Some, count_by, IsTrue, inl, inr, ◌==◌, refl, ap, sym, ◌∙◌, subst, append_assoc, append-nil, length-append, if◌then◌else◌, arith, list_any, AllByRecursion, list_any-append, append_cancel_left, take-append-drop, Account, Gains, GainsFront, Gives, IsSound, IsLeft, has_ended, Store, Answer, state_of, Answers, lines_of, AnswersAll, Command, line_of, behind, command_bytes, IsCommand, Commands, End, ends, stops, whole, without_end, last_line, IsSession, last_end, all_accepted, some_refused, BeginsWith, whole_ones, all_of_it, all_whole, but_for_the_last, IsCutByWrite, gains-both, gains-none, Fits, AllDone, IsLast, Moment, Progress, Standing, Leaves, LeavesByRead, LeavesByWrite, status_of, Advances, outcome_of, after_answer, HasAnswered, HasBegun, IsTurn, IsTurnCut, IsSessionCut, SessionFault, stood, Read, Write, Status}
use Rattle.std.proofs.Common.{flat_map}
use Rattle.std.proofs.lemmas.Grind.{flat_map-append}
use Rattle.std.specs.Option.{option_map}
use Rattle.cil_store_specs.specs.Session as spec
use Rattle.cil_store_specs.proofs.RunLemmas.{line_behind, answers-more}
use Rattle.cil_session.specs.Session.{IsReadOf}
use Rattle.cil_session.specs.declared.outcome.Turn.TheVariants as turns
use Rattle.cil_session.specs.declared.outcome.Status.TheVariants as statuses
use Rattle.cil_session.specs.declared.outcome.Last.TheVariants.{AtEnd, AtLine}
use Rattle.cil_session.proofs.InputLemmas.{ended-now, ended-within}
use Rattle.cil_session.proofs.SessionLemmas.{stands, advances-both}

-- What a session did so far: it read whole commands, answered them, and wrote the answers.
pub record SoFar (first now : Moment) (before after : Progress) (status : Status) : Type 0 where
  pub read : List ℕ
  pub reads : Advances first now read
  pub commands : List Command
  pub answers : List Answer
  pub good : AllByRecursion IsCommand commands
  pub is : read ≡ flat_map command_bytes commands
  pub line_is : line_behind 1 commands ≡ 1 + now.held.line_feeds
  pub answered : AnswersAll 1 before.state commands answers after.state
  pub written : Gains before.taken after.taken (flat_map (λ a. a.bytes) answers)
  pub status_is : status_of status ≡ spec.status_of answers ends

-- before the first line
pub at-start : (first : Moment) (before : Progress) → first.held.bytes ≡ [] → first.held.line_feeds ≡ 0 → SoFar first first before before statuses.Clean
at-start first before none feeds = record {
  read = [];
  reads = stands first (record { within = omega (arith, feeds, ap length none); small = λ some. absurd (some none) });
  commands = [];
  answers = [];
  good = tt;
  is = refl;
  line_is = omega (arith, feeds);
  answered = refl;
  written = gains-none before.taken;
  status_is = refl;
}

all-more : (commands : List Command) (command : Command) → AllByRecursion IsCommand commands → IsCommand command → AllByRecursion IsCommand (commands ++ command ∷ [])
all-more [] command all is = (is, tt)
all-more (c ∷ commands) command all is = (all.0, all-more commands command all.1 is)

map-more : {X : Type 0} (f : X → List ℕ) (xs : List X) (x : X) → flat_map f (xs ++ x ∷ []) ≡ flat_map f xs ++ f x
map-more f xs x = flat_map-append f xs (x ∷ []) ∙ ap (λ l. flat_map f xs ++ l) (append-nil (f x))

-- the answers tell the status
refused-more : (answers : List Answer) (answer : Answer) (refused : Bool) (status : Status) → outcome_of refused ≡ outcome_of answer.refuses → status_of status ≡ spec.status_of answers ends
    → status_of (after_answer refused status) ≡ spec.status_of (answers ++ answer ∷ []) ends
refused-more answers answer refused status is so_far =
    ap (λ r. status_of (after_answer r status)) (same refused answer.refuses is) ∙ by answer.refuses ∙ ap (λ b. if b then some_refused else all_accepted) (sym (list_any-append (λ a. a.refuses) answers (answer ∷ [])))
  where
    same : (a b : Bool) → outcome_of a ≡ outcome_of b → a ≡ b
    same true true e = refl
    same false false e = refl
    same true false e = absurd (cc)
    same false true e = absurd (cc)

    without : (b : Bool) → (b || false) ≡ b
    without true = refl
    without false = refl

    with : (b : Bool) → (b || true) ≡ true
    with true = refl
    with false = refl

    by : (refuses : Bool) → status_of (after_answer refuses status) ≡ (if list_any (λ a. a.refuses) answers || (refuses || false) then some_refused else all_accepted)
    by false = so_far ∙ ap (λ b. if b then some_refused else all_accepted) (sym (without (list_any (λ a. a.refuses) answers)))
    by true = ap (λ b. if b then some_refused else all_accepted) (sym (with (list_any (λ a. a.refuses) answers)))

-- with one more command
answers-on : (number : ℕ) (old mid new : Progress) (commands : List Command) (answers : List Answer) (command : Command) (refused : Bool) → line_behind 1 commands ≡ number → AnswersAll 1 old.state commands answers mid.state → (answered : HasAnswered number command (outcome_of refused) mid new)
    → AnswersAll 1 old.state (commands ++ command ∷ []) (answers ++ answered.answer ∷ []) new.state
answers-on number old mid new commands answers command refused line all answered =
    answers-more 1 old.state mid.state new.state commands answers command answered.answer all (subst (λ n. Answers n mid.state command answered.answer new.state) (sym line) answered.answers)

-- the line behind one more command
line-more : (line : ℕ) (commands : List Command) (command : Command) → line_behind line (commands ++ command ∷ []) ≡ line_behind line commands + lines_of command
line-more line [] command = refl
line-more line (c ∷ commands) command = line-more (line + lines_of c) commands command

line-on : (old now : Moment) (read : List ℕ) (commands : List Command) (command : Command) → line_behind 1 commands ≡ 1 + old.held.line_feeds → Advances old now read → read ≡ command_bytes command → line_behind 1 (commands ++ command ∷ []) ≡ 1 + now.held.line_feeds
line-on old now read commands command line reads is = omega (arith, line-more 1 commands command, line, reads.line_feeds, ap (count_by (λ b. b == 10)) is)

written-on : (number : ℕ) (old mid new : Progress) (answers : List Answer) (command : Command) (refused : Bool) → Gains old.taken mid.taken (flat_map (λ a. a.bytes) answers) → (answered : HasAnswered number command (outcome_of refused) mid new) → Gains old.taken new.taken (flat_map (λ a. a.bytes) (answers ++ answered.answer ∷ []))
written-on number old mid new answers command refused written answered =
    subst (Gains old.taken new.taken) (sym (map-more (λ a. a.bytes) answers answered.answer)) (gains-both old.taken mid.taken new.taken (flat_map (λ a. a.bytes) answers) answered.answer.bytes written answered.written)

-- what is left of a text begins with what is given of it, and is that where it is given as a whole
left-given : (old new : Account) (given rest : List ℕ) → IsSound new → Gives old new given → IsLeft old rest → (more : List ℕ) × (IsTrue (has_ended new) → more ≡ []) × (given ++ more ≡ rest)
left-given old new given rest sound gives left =
    let given_is : new.given ≡ Some (left.front ++ given) = gives.given ∙ ap (option_map (λ bytes. bytes ++ given)) left.given in
    let whole_is : new.whole ≡ Some (left.front ++ rest) = gives.whole ∙ left.whole in
    let front = sound.front (left.front ++ rest) (left.front ++ given) whole_is given_is in
    let same : left.front ++ rest ≡ left.front ++ (given ++ front.0) = front.1 ∙ append_assoc left.front given front.0 in (
      front.0,
      λ ended. none (left.front ++ given) front.0 (sym front.1 ∙ some-same (left.front ++ rest) (left.front ++ given) (sym (sound.all ended (left.front ++ rest) whole_is) ∙ given_is)),
      append_cancel_left left.front (given ++ front.0) rest (sym same),
    )
  where
    some-same : (a b : List ℕ) → Some a ≡ Some b → a ≡ b
    some-same a b e = cc

    none : (xs ys : List ℕ) → xs ++ ys ≡ xs → ys ≡ []
    none xs [] e = refl
    none xs (y ∷ ys) e = absurd (omega (arith, ap length e, length-append xs (y ∷ ys)))

-- the bytes that the source gave
fresh-is : (first now : Moment) (read : List ℕ) → first.held.bytes ≡ [] → (reads : Advances first now read) → reads.takes.fresh ≡ read ++ now.held.bytes
fresh-is first now read none reads = ap (λ l. l ++ reads.takes.fresh) (sym none) ∙ reads.takes.same

-- nothing stands behind the last byte
last-bytes : (now : Moment) (bytes read more : List ℕ) → bytes ≡ read ++ now.held.bytes → IsTrue (has_ended now.account) → now.held.bytes ≡ [] → (IsTrue (has_ended now.account) → more ≡ []) → bytes ++ more ≡ read
last-bytes now bytes read more is ended none no_more = (λ i. is i ++ no_more ended i) ∙ append-nil (read ++ now.held.bytes) ∙ ap (λ l. read ++ l) none ∙ append-nil read

-- the bytes of the commands so far and of one more
bytes-more : (read more : List ℕ) (commands : List Command) (command : Command) → read ≡ flat_map command_bytes commands → more ≡ command_bytes command → read ++ more ≡ flat_map command_bytes (commands ++ command ∷ [])
bytes-more read more commands command is more_is = (λ i. is i ++ more_is i) ∙ sym (map-more command_bytes commands command)

-- a turn had a command that has its line feed
pub turn-more : (first old now : Moment) (before between after : Progress) (status : Status) (refused : Bool) → SoFar first old before between status → IsTurn (turns.Answered refused false) old now between after → SoFar first now before after (after_answer refused status)
turn-more first old now before between after status refused so_far (command, read, reads, is_read, answered) = record {
  read = so_far.read ++ read;
  reads = advances-both first old now so_far.read read so_far.reads reads;
  commands = so_far.commands ++ command ∷ [];
  answers = so_far.answers ++ answered.answer ∷ [];
  good = all-more so_far.commands command so_far.good is_read.0;
  is = bytes-more so_far.read read so_far.commands command so_far.is is_read.1;
  line_is = line-on old now read so_far.commands command so_far.line_is reads is_read.1;
  answered = answers-on (1 + old.held.line_feeds) before between after so_far.commands so_far.answers command refused so_far.line_is so_far.answered answered;
  written = written-on (1 + old.held.line_feeds) before between after so_far.answers command refused so_far.written answered;
  status_is = refused-more so_far.answers answered.answer refused status answered.is so_far.status_is;
}

-- the script ended behind its last command
pub done-at-end : (first old now : Moment) (before between after : Progress) (status : Status) → first.held.bytes ≡ [] → SoFar first old before between status → IsTurn turns.End old now between after → IsLast (AtEnd status) first now before after
done-at-end first old now before between after status none so_far (reads, ended, empty, same) =
    let all = advances-both first old now so_far.read [] so_far.reads reads in
    let read_is : so_far.read ++ [] ≡ flat_map command_bytes so_far.commands = append-nil so_far.read ∙ so_far.is in (
      subst (λ s. AllDone first now before s status ends) (sym same) (record {
        bytes = all.takes.fresh;
        gives = all.takes.gives;
        commands = so_far.commands;
        answers = so_far.answers;
        are_commands = λ more no_more. whole so_far.good []
            (last-bytes now all.takes.fresh (so_far.read ++ []) more (fresh-is first now (so_far.read ++ []) none all) (ended-now old.account now.account ended) empty no_more ∙ read_is ∙ sym (append-nil (flat_map command_bytes so_far.commands))) refl;
        answered = so_far.answered;
        written = so_far.written;
        status_is = so_far.status_is;
      }),
      λ e. ended-within first.account old.account now.account now.account so_far.reads.takes.gives.ends ended (omega arith),
    )

-- the bytes given, where the last command lacks its line feed
without-feed : (first old now : Moment) (read before more : List ℕ) (commands : List Command) (command : Command) → first.held.bytes ≡ [] → (all : Advances first now (before ++ read)) → before ≡ flat_map command_bytes commands → AllByRecursion IsCommand commands
    → IsReadOf true command read old now → (IsTrue (has_ended now.account) → more ≡ []) → Commands (all.takes.fresh ++ more) (commands ++ command ∷ []) ends
without-feed first old now read before more commands command none all is good (is_command, may, read_is, ended, empty) no_more =
    without_end commands command (all-more commands command good is_command) refl may
    (last-bytes now all.takes.fresh (before ++ read) more (fresh-is first now (before ++ read) none all) (ended-now old.account now.account ended) empty no_more ∙ (λ i. is i ++ read_is i)) refl

-- the script ended with a command that lacks its line feed
pub done-without-end : (first old now : Moment) (before between after : Progress) (status : Status) (refused : Bool) → first.held.bytes ≡ [] → SoFar first old before between status → IsTurn (turns.Answered refused true) old now between after
    → IsLast (AtEnd (after_answer refused status)) first now before after
done-without-end first old now before between after status refused none so_far (command, read, reads, is_read, answered) =
    let all = advances-both first old now so_far.read read so_far.reads reads in (
      record {
        bytes = all.takes.fresh;
        gives = all.takes.gives;
        commands = so_far.commands ++ command ∷ [];
        answers = so_far.answers ++ answered.answer ∷ [];
        are_commands = λ more no_more. without-feed first old now read so_far.read more so_far.commands command none all so_far.is so_far.good is_read no_more;
        answered = answers-on (1 + old.held.line_feeds) before between after so_far.commands so_far.answers command refused so_far.line_is so_far.answered answered;
        written = written-on (1 + old.held.line_feeds) before between after so_far.answers command refused so_far.written answered;
        status_is = refused-more so_far.answers answered.answer refused status answered.is so_far.status_is;
      },
      λ e. ended-within first.account old.account now.account now.account so_far.reads.takes.gives.ends is_read.3 (omega arith),
    )

-- the bytes given begin with the commands so far
given-is : (first now : Moment) (before read more : List ℕ) (commands : List Command) → first.held.bytes ≡ [] → (all : Advances first now (before ++ read)) → before ≡ flat_map command_bytes commands
    → all.takes.fresh ++ more ≡ flat_map command_bytes commands ++ (read ++ (now.held.bytes ++ more))
given-is first now before read more commands none all is =
    (λ i. fresh-is first now (before ++ read) none all i ++ more) ∙ regroup before read now.held.bytes more ∙ ap (λ l. l ++ (read ++ (now.held.bytes ++ more))) is
  where
    regroup : (a b c d : List ℕ) → ((a ++ b) ++ c) ++ d ≡ a ++ (b ++ (c ++ d))
    regroup a b c d = simp append_assoc

-- the script stops at a line that is no command
pub done-at-line : (first old now : Moment) (before between after : Progress) (status : Status) → first.held.bytes ≡ [] → first.held.line_feeds ≡ 0 → SoFar first old before between status → IsTurn turns.NoCommand old now between after
    → IsLast (AtLine old.held.line_feeds) first now before after
done-at-line first old now before between after status none feeds so_far (read, reads, is_none, same) =
    let all = advances-both first old now so_far.read read so_far.reads reads in
    let line_is : old.held.line_feeds ≡ count_by (λ b. b == 10) (flat_map command_bytes so_far.commands) = omega (arith, so_far.reads.line_feeds, feeds) ∙ ap (count_by (λ b. b == 10)) so_far.is in (
      subst (λ s. AllDone first now before s statuses.Script (stops (1 + old.held.line_feeds))) (sym same) (record {
        bytes = all.takes.fresh;
        gives = all.takes.gives;
        commands = so_far.commands;
        answers = so_far.answers;
        are_commands = λ more no_more. let no = is_none more no_more in
            whole so_far.good (read ++ (now.held.bytes ++ more)) (given-is first now so_far.read read more so_far.commands none all so_far.is) (no.0, no.1, ap (λ n. 1 + n) line_is);
        answered = so_far.answered;
        written = so_far.written;
        status_is = refl;
      }),
      λ e. absurd (cc),
    )

-- a session over the bytes given is one over the whole text that was left
abbrev session-whole : (given more rest : List ℕ) (ended : Bool) (old new : Store) (written : List ℕ) (status : spec.Status) → (IsTrue ended → more ≡ []) → given ++ more ≡ rest → IsSession given ended old new written status → IsSession rest true old new written status
session-whole given more rest ended old new written status no_more is session = record {
  commands = session.commands;
  answers = session.answers;
  end = session.end;
  are_commands = λ after none. subst (λ script. Commands script session.commands session.end) (is ∙ sym (append-nil rest) ∙ ap (λ l. rest ++ l) (sym (none refl))) (session.are_commands more no_more);
  last = session.last;
  answered = session.answered;
  store_is = session.store_is;
  are_written = session.are_written;
  status_is = session.status_is;
}

-- and so is one that was cut
cut-whole : (given more rest : List ℕ) (ended : Bool) (old new : Store) (written : List ℕ) → (IsTrue ended → more ≡ []) → given ++ more ≡ rest → IsCutByWrite given ended old new written → IsCutByWrite rest true old new written
cut-whole given more rest ended old new written no_more is (inl cut) = inl (record {
  commands = cut.commands;
  answers = cut.answers;
  last = cut.last;
  are_first = λ after none. subst (λ script. BeginsWith script cut.commands) (is ∙ sym (append-nil rest) ∙ ap (λ l. rest ++ l) (sym (none refl))) (cut.are_first more no_more);
  answered = cut.answered;
  store_is = cut.store_is;
  are_written = cut.are_written;
})
cut-whole given more rest ended old new written no_more is (inr cut) = inr (record {
  status = cut.status;
  text = cut.text;
  session = session-whole given more rest ended old new cut.text cut.status no_more is cut.session;
  front = cut.front;
  rest = cut.rest;
  line_is = cut.line_is;
  are_written = cut.are_written;
})

-- by what was given, and what the sink took
pub by-write : (first now : Account) (before after : Standing) (given written : List ℕ) → Gives first now given → Gains before.taken after.taken written → IsSound now → IsCutByWrite given (has_ended now) before.store after.store written → LeavesByWrite first now before after
by-write first now before after given written gives gains sound cut = record {
  given = given;
  written = written;
  gives = gives;
  gains = gains;
  cut = cut;
  whole = λ rest left.
      let more = left-given first now given rest sound gives left in
      cut-whole given more.0 rest (has_ended now) before.store after.store written more.1 more.2 cut;
}

-- a session begins on the store of its engine, with no batch open
abbrev pub begun : Standing → Progress
begun start = record { state = state_of start.store; taken = start.taken }

-- what a session writes of which all was done
abbrev text-of : List Answer → Progress → End → List ℕ
text-of answers last end = flat_map (λ a. a.bytes) answers ++ last_line (last_end end last.state.batch)

-- all was done that a session does
session-done : (first now : Moment) (start finish : Standing) (between : Progress) (status : Status) (end : End) (last : spec.Status) → (done : AllDone first now (begun start) between status end) → finish.store ≡ between.state.store
    → last ≡ spec.status_of done.answers (last_end end between.state.batch) → IsSession done.bytes (has_ended now.account) start.store finish.store (text-of done.answers between end) last
session-done first now start finish between status end last done same status_is = record {
  commands = done.commands;
  answers = done.answers;
  end = end;
  last = between.state;
  are_commands = done.are_commands;
  answered = done.answered;
  store_is = same;
  are_written = refl;
  status_is = status_is;
}

-- all was done, and then the last line was written
pub leaves : (first now : Moment) (start finish : Standing) (between : Progress) (status last : Status) (end : End) → (done : AllDone first now (begun start) between status end) → finish.store ≡ between.state.store
    → Gains between.taken finish.taken (last_line (last_end end between.state.batch)) → status_of last ≡ spec.status_of done.answers (last_end end between.state.batch) → IsSound now.account → Leaves first.account now.account start finish last
leaves first now start finish between status last end done same gains status_is sound =
    let text = text-of done.answers between end in
    let session = session-done first now start finish between status end (status_of last) done same status_is in
    record {
      given = done.bytes;
      written = text;
      gives = done.gives;
      gains = gains-both start.taken between.taken finish.taken (flat_map (λ a. a.bytes) done.answers) (last_line (last_end end between.state.batch)) done.written gains;
      session = session;
      whole = λ rest left.
          let more = left-given first.account now.account done.bytes rest sound done.gives left in
          session-whole done.bytes more.0 rest (has_ended now.account) start.store finish.store text (status_of last) more.1 more.2 session;
    }

-- or a beginning of it
pub cut-in_last_line : (first now : Moment) (start finish : Standing) (between : Progress) (status : Status) (end : End) → AllDone first now (begun start) between status end → finish.store ≡ between.state.store
    → GainsFront between.taken finish.taken (last_line (last_end end between.state.batch)) → IsSound now.account → LeavesByWrite first.account now.account start finish
unfolding session-done
cut-in_last_line first now start finish between status end done same (n, within, gains) sound =
    let line = last_line (last_end end between.state.batch) in
    let bytes = flat_map (λ a. a.bytes) done.answers in
    by-write first.account now.account start finish done.bytes (bytes ++ take n line) done.gives (gains-both start.taken between.taken finish.taken bytes (take n line) done.written gains) sound (inr (record {
      status = spec.status_of done.answers (last_end end between.state.batch);
      text = text-of done.answers between end;
      session = session-done first now start finish between status end (spec.status_of done.answers (last_end end between.state.batch)) done same refl;
      front = take n line;
      rest = drop n line;
      line_is = sym (take-append-drop n line);
      are_written = refl;
    }))

-- all was written, and then the last flush failed
cut-behind : (given : List ℕ) (ended : Bool) (old new : Store) (written : List ℕ) (status : spec.Status) → IsSession given ended old new written status → IsCutByWrite given ended old new written
cut-behind given ended old new written status session = inr (record {
  status = status;
  text = written;
  session = session;
  front = last_line (last_end session.end session.last.batch);
  rest = [];
  line_is = sym (append-nil (last_line (last_end session.end session.last.batch)));
  are_written = session.are_written;
})

pub cut-at-last : (first now : Account) (before after : Standing) (status : Status) → Leaves first now before after status → LeavesByWrite first now before after
cut-at-last first now before after status left = record {
  given = left.given;
  written = left.written;
  gives = left.gives;
  gains = left.gains;
  cut = cut-behind left.given (has_ended now) before.store after.store left.written (status_of status) left.session;
  whole = λ rest is. cut-behind rest true before.store after.store left.written (status_of status) (left.whole rest is);
}

-- the source failed in a turn
cut-at-read : (first old now : Moment) (start : Standing) (between after : Progress) (status : Status) → first.held.bytes ≡ [] → SoFar first old (begun start) between status → IsTurnCut Read old now between after → IsSound now.account → LeavesByRead first.account now.account start (stood after)
cut-at-read first old now start between after status none so_far (read, stopped, no_more, same) sound =
    let all = advances-both first old now so_far.read read so_far.reads stopped.reads in
    let given : all.takes.fresh ≡ flat_map command_bytes so_far.commands ++ read = fresh-is first now (so_far.read ++ read) none all ∙ (λ i. (so_far.is i ++ read) ++ stopped.none i) ∙ append-nil (flat_map command_bytes so_far.commands ++ read) in
    subst (λ p. LeavesByRead first.account now.account start (stood p)) (sym same) (record {
      given = all.takes.fresh;
      written = flat_map (λ a. a.bytes) so_far.answers;
      gives = all.takes.gives;
      gains = so_far.written;
      cut = record {
        commands = so_far.commands;
        answers = so_far.answers;
        rest = read;
        last = between.state;
        are_commands = so_far.good;
        no_more = no_more;
        are_given = given;
        answered = so_far.answered;
        store_is = refl;
        are_written = refl;
      };
      whole = λ rest left.
          let more = left-given first.account now.account all.takes.fresh rest sound all.takes.gives left in
          (more.0, sym more.2);
    })

-- the sink failed in a turn, before anything was done
cut-before-answer : (first old now : Moment) (start : Standing) (between : Progress) (status : Status) (read : List ℕ) → first.held.bytes ≡ [] → SoFar first old (begun start) between status → Advances old now read → IsSound now.account → LeavesByWrite first.account now.account start (stood between)
cut-before-answer first old now start between status read none so_far reads sound =
    let all = advances-both first old now so_far.read read so_far.reads reads in
    let bytes = flat_map (λ a. a.bytes) so_far.answers in
    by-write first.account now.account start (stood between) all.takes.fresh bytes all.takes.gives so_far.written sound (inl (record {
      commands = so_far.commands;
      answers = so_far.answers;
      last = between.state;
      are_first = λ more no_more. whole_ones so_far.good (read ++ (now.held.bytes ++ more)) (given-is first now so_far.read read more so_far.commands none all so_far.is);
      answered = so_far.answered;
      store_is = refl;
      are_written = all_whole refl;
    }))

-- or in an answer
cut-in_answer : (first old now : Moment) (start : Standing) (between after : Progress) (status : Status) (last : Bool) (command : Command) (read : List ℕ) → first.held.bytes ≡ [] → SoFar first old (begun start) between status → Advances old now read → IsReadOf last command read old now
    → HasBegun (1 + old.held.line_feeds) command between after → IsSound now.account → LeavesByWrite first.account now.account start (stood after)
cut-in_answer first old now start between after status last command read none so_far reads is_read answering sound =
    let all = advances-both first old now so_far.read read so_far.reads reads in
    let bytes = flat_map (λ a. a.bytes) so_far.answers in
    let n = answering.written.0 in
    let front = take n answering.answer.bytes in
    by-write first.account now.account start (stood after) all.takes.fresh (bytes ++ front) all.takes.gives (gains-both start.taken between.taken after.taken bytes front so_far.written answering.written.2) sound (inl (record {
      commands = so_far.commands ++ command ∷ [];
      answers = so_far.answers ++ answering.answer ∷ [];
      last = after.state;
      are_first = λ more no_more. begins last is_read more no_more all;
      answered = answers-more 1 (state_of start.store) between.state after.state so_far.commands so_far.answers command answering.answer so_far.answered
          (subst (λ n. Answers n between.state command answering.answer after.state) (sym so_far.line_is) answering.answers);
      store_is = refl;
      are_written = but_for_the_last so_far.answers answering.answer front (drop n answering.answer.bytes) refl (sym (take-append-drop n answering.answer.bytes)) refl;
    }))
  where
    begins : (l : Bool) → IsReadOf l command read old now → (more : List ℕ) → (IsTrue (has_ended now.account) → more ≡ []) → (all : Advances first now (so_far.read ++ read)) → BeginsWith (all.takes.fresh ++ more) (so_far.commands ++ command ∷ [])
    begins false is more no_more all = whole_ones (all-more so_far.commands command so_far.good is.0) (now.held.bytes ++ more)
        (given-is first now so_far.read read more so_far.commands none all so_far.is ∙ sym (append_assoc (flat_map command_bytes so_far.commands) read (now.held.bytes ++ more))
        ∙ ap (λ l. l ++ (now.held.bytes ++ more)) (sym (ap (λ l. l ++ read) so_far.is) ∙ bytes-more so_far.read read so_far.commands command so_far.is is.1))
    begins true is more no_more all = all_of_it (without-feed first old now read so_far.read more so_far.commands command none all so_far.is so_far.good is no_more)

-- the source or the sink failed in a turn
pub session-cut : (fault : SessionFault) (first old now : Moment) (start : Standing) (between after : Progress) (status : Status) → first.held.bytes ≡ [] → SoFar first old (begun start) between status → IsSound now.account → IsTurnCut fault old now between after → IsSessionCut fault first now (begun start) after
session-cut Read first old now start between after status none so_far sound cut = cut-at-read first old now start between after status none so_far cut sound
session-cut Write first old now start between after status none so_far sound (inl (read, reads, same)) = subst (λ p. LeavesByWrite first.account now.account start (stood p)) (sym same) (cut-before-answer first old now start between status read none so_far reads sound)
session-cut Write first old now start between after status none so_far sound (inr (last, command, read, reads, is_read, answering)) = cut-in_answer first old now start between after status last command read none so_far reads is_read answering sound

-- with each command fewer bytes are left of those that a source can count
pub fewer-left : (old now : Moment) (refused : Bool) (before after : Progress) → Fits old.account.count old.held → IsTurn (turns.Answered refused false) old now before after
    → 2 ^ 64 - (now.account.count - length now.held.bytes) < 2 ^ 64 - (old.account.count - length old.held.bytes)
fewer-left old now refused before after fits (command, read, reads, is_read, answered) =
    let some : 0 < length read = omega (arith, ap length is_read.1, length-append (line_of command) (10 ∷ behind command)) in
    fewer (2 ^ 64) old.account.count now.account.count (length old.held.bytes) (length now.held.bytes) (length read) (omega (arith, fits.within)) (omega (arith, reads.fits.within)) reads.counts (reads.small (λ e. omega (arith, some, ap length e)))
    (λ e. omega (arith, some, e))
  where
    fewer : (greatest old now held kept read : ℕ) → held ≤ old → kept ≤ now → now + held ≡ old + read + kept → now < greatest → read ≢ 0 → greatest - (now - kept) < greatest - (old - held)
    fewer greatest old now held kept read a b c d e = omega (arith, a, b, c, d, e)
