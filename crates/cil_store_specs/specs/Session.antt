-- What a session over a script leaves behind.
use Rattle.std.specs.Prelude.{◌≡◌, ◌⊎◌, ℕ, Bool, List, [], ◌∷◌, ◌++◌, flat_map, Option, Some, None, IsTrue, if◌then◌else◌}
use Rattle.std.specs.List.{list_any, AllByRecursion}
use Rattle.cil_store_specs.specs.Store.{Store}
use Rattle.cil_store_specs.specs.Script.{Command, command_bytes, IsCommand, End, ends, stops, Commands, last_line}
use Rattle.cil_store_specs.specs.Answers.{Answer, Batch, State, state_of, AnswersAll, answers_text}

-- how a session ends
pub data Status : Type 0 where
  all_accepted : Status
  some_refused : Status
  no_script : Status

-- at a line that is no command; or else with an answer that is a refusal; or without
abbrev pub status_of : List Answer → End → Status
status_of answers (stops line) = no_script
status_of answers ends = if list_any (λ a. a.refuses) answers then some_refused else all_accepted

-- the commands of a script were answered one after another, from one state to another
abbrev pub AreAnswered : State → List Command → List Answer → State → Type 0
AreAnswered old commands answers new = AnswersAll 1 old commands answers new

-- A script whose commands end while a batch is open ends at the line of its begin.
abbrev pub last_end : End → Option Batch → End
last_end ends None = ends
last_end ends (Some batch) = stops batch.line
last_end (stops line) batch = stops line

-- The script is the bytes that a source gave, if it told its end; or else all that begins with these bytes. Its commands were
-- answered one after another, the answers were written, and nothing else. Nothing was done of a batch that is still open.
pub record IsSession (given : List ℕ) (ended : Bool) (old new : Store) (written : List ℕ) (status : Status) : Type 0 where
  pub commands : List Command
  pub answers : List Answer
  pub end : End
  pub last : State
  pub are_commands : (more : List ℕ) → (IsTrue ended → more ≡ []) → Commands (given ++ more) commands end
  pub answered : AreAnswered (state_of old) commands answers last
  pub store_is : new ≡ last.store
  pub are_written : written ≡ answers_text answers (last_end end last.batch)
  pub status_is : status ≡ status_of answers (last_end end last.batch)

-- these bytes begin with no command that has its last line feed
abbrev pub BeginsNoCommand : List ℕ → Type 0
BeginsNoCommand bytes = (command : Command) (rest : List ℕ) → IsCommand command → bytes ≡ command_bytes command ++ rest → ⊥

-- The source failed. What it gave is some commands, each with its last line feed, and a rest that begins with none. All of these
-- commands were answered, the answers were written, and nothing else.
pub record IsCutByRead (given : List ℕ) (old new : Store) (written : List ℕ) : Type 0 where
  pub commands : List Command
  pub answers : List Answer
  pub rest : List ℕ
  pub last : State
  pub are_commands : AllByRecursion IsCommand commands
  pub no_more : BeginsNoCommand rest
  pub are_given : given ≡ flat_map command_bytes commands ++ rest
  pub answered : AreAnswered (state_of old) commands answers last
  pub store_is : new ≡ last.store
  pub are_written : written ≡ flat_map (λ a. a.bytes) answers

-- a script begins with these commands: each has its last line feed, or they are all that it is
pub data BeginsWith (script : List ℕ) (commands : List Command) : Type 0 where
  whole_ones : AllByRecursion IsCommand commands → (rest : List ℕ) → script ≡ flat_map command_bytes commands ++ rest → BeginsWith script commands
  all_of_it : Commands script commands ends → BeginsWith script commands

-- the answers are written, all whole, or but for the last, of which a beginning is
pub data AreWritten (answers : List Answer) (written : List ℕ) : Type 0 where
  all_whole : written ≡ flat_map (λ a. a.bytes) answers → AreWritten answers written
  but_for_the_last : (before : List Answer) (last : Answer) (front rest : List ℕ) → answers ≡ before ++ last ∷ [] → last.bytes ≡ front ++ rest
      → written ≡ flat_map (λ a. a.bytes) before ++ front → AreWritten answers written

-- The sink failed in an answer, or in none. The commands with which the script begins were answered, and the answers written, the
-- last one perhaps but for its end. The script is the bytes given, if the source told its end; or else all that begins with them.
pub record IsCutInAnAnswer (given : List ℕ) (ended : Bool) (old new : Store) (written : List ℕ) : Type 0 where
  pub commands : List Command
  pub answers : List Answer
  pub last : State
  pub are_first : (more : List ℕ) → (IsTrue ended → more ≡ []) → BeginsWith (given ++ more) commands
  pub answered : AreAnswered (state_of old) commands answers last
  pub store_is : new ≡ last.store
  pub are_written : AreWritten answers written

-- The sink failed behind the answers. All was done that a session does, but of its last line perhaps a beginning alone was written.
pub record IsCutInTheLastLine (given : List ℕ) (ended : Bool) (old new : Store) (written : List ℕ) : Type 0 where
  pub status : Status
  pub text : List ℕ
  pub session : IsSession given ended old new text status
  pub front : List ℕ
  pub rest : List ℕ
  pub line_is : last_line (last_end session.end session.last.batch) ≡ front ++ rest
  pub are_written : written ≡ flat_map (λ a. a.bytes) session.answers ++ front

-- the sink failed, in an answer or in the last line
abbrev pub IsCutByWrite : List ℕ → Bool → Store → Store → List ℕ → Type 0
IsCutByWrite given ended old new written = IsCutInAnAnswer given ended old new written ⊎ IsCutInTheLastLine given ended old new written
