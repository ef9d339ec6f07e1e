-- The answers to the commands of a script.
use Rattle.std.specs.Prelude.{◌≡◌, ℕ, ◌+◌, Bool, true, false, ◌==◌, List, [], ◌∷◌, ◌++◌, flat_map, length, take, codes, count_by, Option, Some, None}
use Rattle.cil_store_specs.specs.Store.{Store}
use Rattle.cil_store_specs.specs.StoreReport.{modules_text}
use Rattle.cil_store_specs.specs.Next.{Edit, install, remove, enable, disable, by_store, for_memory, batch_word, is_too_long}
use Rattle.cil_store_specs.specs.Run.{Call, a_batch, an_edit, ask_rows, ask_violations, ask_dropped, Reply, refused, Step}
use Rattle.cil_store_specs.specs.Script.{Command, makes, begins, commits, aborts, asks_rules, asks_violations, asks_dropped, asks_modules, asks_dump, command_bytes, reply_text, end_line, dump_commands, dump_text, End, last_line}

-- whether a reply is a refusal
abbrev pub is_refusal : Reply → Bool
is_refusal (refused refusal) = true
is_refusal _ = false

-- the bytes that answer a command, and whether they are a refusal
pub record Answer : Type 0 where
  pub bytes : List ℕ
  pub refuses : Bool

abbrev pub answer_of : Reply → Answer
answer_of reply = record { bytes = reply_text reply; refuses = is_refusal reply }

-- a line that refuses nothing
abbrev pub a_line : List ℕ → Answer
a_line bytes = record { bytes = bytes; refuses = false }

-- the refusal by a code and a word
abbrev pub a_refusal : ℕ → List ℕ → Answer
a_refusal code word = answer_of (refused (by_store code word))

-- What an open batch holds: all edits that were given; or none, after one with which it would have been too long, or for which memory
-- ran out.
pub data HeldEdits : Type 0 where
  all_held : List Edit → HeldEdits
  over_the_limits : HeldEdits
  without_memory : HeldEdits

-- A batch that is open: the number of the line of its begin, and what it holds.
pub record Batch : Type 0 where
  pub line : ℕ
  pub held : HeldEdits

-- What a session keeps from one command to the next: the store, and the batch that is open, if one is.
pub record State : Type 0 where
  pub store : Store
  pub batch : Option Batch

-- the state of a session that starts on a store
abbrev pub state_of : Store → State
state_of store = record { store = store; batch = None }

-- the name of an edit
abbrev pub name_of : Edit → List ℕ
name_of (install name priority text) = name
name_of (remove name priority) = name
name_of (enable name) = name
name_of (disable name) = name

-- An edit as it is held: of a text that no store takes, with as many bytes as show that it is too long.
abbrev pub held_as : Edit → Edit
held_as (install name priority text) = install name priority (take 16777217 text)
held_as (remove name priority) = remove name priority
held_as (enable name) = enable name
held_as (disable name) = disable name

-- What answers an edit that is given to an open batch, and what the batch holds then. With the edit it would be too long, or memory runs
-- out for the edit: it is refused, and so is each later one.
pub data IsHeld (old : HeldEdits) (edit : Edit) (answer : Answer) (new : HeldEdits) : Type 0 where
  holds : (edits : List Edit) → old ≡ all_held edits → is_too_long (edits ++ edit ∷ []) ≡ false → answer ≡ a_line (codes "held\n") → new ≡ all_held (edits ++ held_as edit ∷ []) → IsHeld old edit answer new
  passes_the_limits : (edits : List Edit) → old ≡ all_held edits → is_too_long (edits ++ edit ∷ []) ≡ true → answer ≡ a_refusal 35 (name_of edit) → new ≡ over_the_limits → IsHeld old edit answer new
  has_no_memory : (edits : List Edit) → old ≡ all_held edits → is_too_long (edits ++ edit ∷ []) ≡ false → answer ≡ answer_of (refused for_memory) → new ≡ without_memory → IsHeld old edit answer new
  after_the_limits : old ≡ over_the_limits → answer ≡ a_refusal 35 (name_of edit) → new ≡ over_the_limits → IsHeld old edit answer new
  after_no_memory : old ≡ without_memory → answer ≡ answer_of (refused for_memory) → new ≡ without_memory → IsHeld old edit answer new

-- The reply to the commit of a batch, and the store after it.
pub data IsCommitted (old : Store) (held : HeldEdits) (reply : Reply) (new : Store) : Type 0 where
  makes_all : (edits : List Edit) → held ≡ all_held edits → Step old (a_batch edits) reply new → IsCommitted old held reply new
  was_too_long : held ≡ over_the_limits → reply ≡ refused (by_store 35 batch_word) → new ≡ old → IsCommitted old held reply new
  had_no_memory : held ≡ without_memory → reply ≡ refused for_memory → new ≡ old → IsCommitted old held reply new

-- the call of an engine by which a question is answered, if there is one
abbrev pub question_of : Command → Option Call
question_of (makes edit) = None
question_of begins = None
question_of commits = None
question_of aborts = None
question_of asks_rules = Some ask_rows
question_of asks_violations = Some ask_violations
question_of asks_dropped = Some ask_dropped
question_of asks_modules = None
question_of asks_dump = None

-- What a command on a line does to the state of a session, and what answers it. With no batch open an edit is made, and with one it is
-- held. A question is answered for the store, whether or not a batch is open, and changes nothing.
pub data Answers (line : ℕ) (old : State) (command : Command) (answer : Answer) (new : State) : Type 0 where
  by_the_edit : (edit : Edit) (reply : Reply) (store : Store) → command ≡ makes edit → old.batch ≡ None → Step old.store (an_edit edit) reply store → answer ≡ answer_of reply
      → new ≡ state_of store → Answers line old command answer new
  by_holding : (edit : Edit) (batch : Batch) (held : HeldEdits) → command ≡ makes edit → old.batch ≡ Some batch → IsHeld batch.held edit answer held
      → new ≡ record { store = old.store; batch = Some (record { line = batch.line; held = held }) } → Answers line old command answer new
  by_opening : command ≡ begins → old.batch ≡ None → answer ≡ a_line (codes "open\n") → new ≡ record { store = old.store; batch = Some (record { line = line; held = all_held [] }) }
      → Answers line old command answer new
  is_open : (batch : Batch) → command ≡ begins → old.batch ≡ Some batch → answer ≡ a_refusal 36 (codes "begin") → new ≡ old → Answers line old command answer new
  by_the_batch : (batch : Batch) (reply : Reply) (store : Store) → command ≡ commits → old.batch ≡ Some batch → IsCommitted old.store batch.held reply store → answer ≡ answer_of reply
      → new ≡ state_of store → Answers line old command answer new
  by_closing : (batch : Batch) → command ≡ aborts → old.batch ≡ Some batch → answer ≡ a_line (codes "closed\n") → new ≡ state_of old.store → Answers line old command answer new
  none_to_commit : command ≡ commits → old.batch ≡ None → answer ≡ a_refusal 37 (codes "commit") → new ≡ old → Answers line old command answer new
  none_to_abort : command ≡ aborts → old.batch ≡ None → answer ≡ a_refusal 37 (codes "abort") → new ≡ old → Answers line old command answer new
  by_engine : (call : Call) (reply : Reply) → question_of command ≡ Some call → Step old.store call reply old.store → answer ≡ answer_of reply → new ≡ old → Answers line old command answer new
  by_modules : command ≡ asks_modules → answer ≡ a_line (modules_text old.store ++ end_line (length old.store.entries)) → new ≡ old → Answers line old command answer new
  by_dump : command ≡ asks_dump → answer ≡ a_line (dump_text old.store ++ end_line (length (dump_commands old.store))) → new ≡ old → Answers line old command answer new

-- how many lines a command has
abbrev pub lines_of : Command → ℕ
lines_of command = count_by (λ b. b == 10) (command_bytes command)

-- the answers to commands, one after another, of which the first is on a line
abbrev pub AnswersAll : ℕ → State → List Command → List Answer → State → Type 0
AnswersAll line old [] [] new = new ≡ old
AnswersAll line old (command ∷ commands) (answer ∷ answers) new = (mid : State) × Answers line old command answer mid × AnswersAll (line + lines_of command) mid commands answers new
AnswersAll line old [] (answer ∷ answers) new = ⊥
AnswersAll line old (command ∷ commands) [] new = ⊥

-- the bytes of all answers, and of the end
abbrev pub answers_text : List Answer → End → List ℕ
answers_text answers end = flat_map (λ a. a.bytes) answers ++ last_line end
