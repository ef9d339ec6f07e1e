-- The words of a command line, and what answers them.
use Rattle.std.specs.Prelude.{◌≡◌, ◌≢◌, ℕ, ◌<◌, List, [], ◌∷◌, ◌++◌, Bool, false, flat_map, length, drop, codes, slice_index, Contains, Option, None, Some, Result, Err, IfOk, OnErr, ◌⊎◌, ◌≤◌}
use Rattle.std.specs.List.{AllZip}
use Rattle.cil_specs.specs.Report.{Row, row_line}
use Rattle.cil_specs.specs.Violations.{Violation, violations_text}
use Rattle.clap.specs.declared.error.kind.ErrorKind.{ErrorKind}
use Rattle.clap.specs.declared.error.kind.ErrorKind.TheVariants.{OutOfMemory}
use Rattle.cil_stream.specs.Device.{Account, Gains, GainsFront, HasEnded, HasFailed}
use Rattle.cil_stream.specs.declared.sink.SinkFault.{SinkFault}
use Rattle.cil_store_specs.specs.Store.{Entry, Store, empty}
use Rattle.cil_store_specs.specs.Next.{Refusal, accepts, refuses, for_memory, Of}
use Rattle.cil_store_specs.specs.Run.{AreRowsOf, AreViolationsOf}
use Rattle.cil_store_specs.specs.Script.{refusal_line}
use Rattle.cil_program.specs.Meanings.{refusal_text}
use Rattle.cil_session.specs.Session.{Leaves, LeavesByRead, LeavesByWrite, exit_status_of}
use Rattle.cil_program.specs.declared.command_line.compile.Report.{Report}
use Rattle.cil_program.specs.declared.command_line.compile.Report.TheVariants.{Listing, Violations}
use Rattle.cil_session.specs.declared.outcome.SessionFault.{SessionFault}
use Rattle.cil_session.specs.declared.outcome.SessionFault.TheVariants.{Read, Write}
use Rattle.cil_session.specs.declared.outcome.Status.{Status}

-- behind the program's name stands `session` alone
abbrev pub AsksSession : List (List ℕ) → Type 0
AsksSession words = drop 1 words ≡ codes "session" ∷ []

-- a sink by what it tells
pub record Written : Type 0 where
  pub taken : Option (List ℕ)
  pub flushed : Option (List ℕ)
  pub failures : ℕ

abbrev pub told_by : {W : Type 0} → (W → Option (List ℕ)) → (W → Option (List ℕ)) → (W → ℕ) → W → Written
told_by taken flushed failures w = record { taken = taken w; flushed = flushed w; failures = failures w }

-- What is meant is written on two sinks, which tell what they took and how often they failed, and this is the exit status; or one failed,
-- and beginnings were written.
pub record WritesBoth {W E : Type 0} (taken : W → Option (List ℕ)) (failures : W → ℕ) (out new_out : W) (err_taken : E → Option (List ℕ))
    (err_failures : E → ℕ) (err new_err : E) (IsMeant : List ℕ → List ℕ → ℕ → Type 0) (result : Result ℕ SinkFault) : Type 0 where
  pub ok : IfOk result (λ status. (printed : List ℕ) × (told : List ℕ) × Gains (taken out) (taken new_out) printed
      × Gains (err_taken err) (err_taken new_err) told × IsMeant printed told status)
  pub cut : OnErr result ((printed : List ℕ) × (told : List ℕ) × (status : ℕ) × GainsFront (taken out) (taken new_out) printed
      × GainsFront (err_taken err) (err_taken new_err) told × IsMeant printed told status)
  pub failed : OnErr result (HasFailed (failures out) (failures new_out) ⊎ HasFailed (err_failures err) (err_failures new_err))
  pub out_counted : failures out ≤ failures new_out
  pub err_counted : err_failures err ≤ err_failures new_err

-- So it is where one sink is all that there is.
abbrev pub Tells : {E : Type 0} → (E → Option (List ℕ)) → (E → ℕ) → E → E → (List ℕ → ℕ → Type 0) → Result ℕ SinkFault → Type 0
Tells taken failures err new_err IsMeant = WritesBoth {W = Unit {0}} (λ _. None) (λ _. 0) tt tt taken failures err new_err (λ _. IsMeant)

-- A session over an empty store was answered: what it left of its source and its sink, and the exit status.
pub record AnswersSession (first now : Account) (before after : Written) (status : ℕ) : Type 0 where
  pub end : Result Status SessionFault
  pub is : status ≡ exit_status_of end
  pub leaves : IfOk end (λ s. (store : Store) × Leaves first now (record { store = empty; taken = before.taken }) (record { store = store; taken = after.taken }) s)
  pub cut_by_read : end ≡ Err Read → (store : Store) × LeavesByRead first now (record { store = empty; taken = before.taken }) (record { store = store; taken = after.taken })
  pub cut_by_write : end ≡ Err Write → (store : Store) × LeavesByWrite first now (record { store = empty; taken = before.taken }) (record { store = store; taken = after.taken })
  pub flushed : status ≢ 3 → after.flushed ≡ after.taken
  pub ended : (status ≡ 0) ⊎ (status ≡ 1) → HasEnded first now
  pub failed : status ≡ 3 → HasFailed first.failures now.failures ⊎ HasFailed before.failures after.failures

-- Memory ran out, which was told on the second sink alone; or a sink failed, and a beginning of
-- that was told there.
abbrev pub LacksMemory : Written → Written → Written → Written → ℕ → Type 0
LacksMemory out new_out err new_err status =
    (new_out.taken ≡ out.taken)
    × (((status ≡ 1) × Gains err.taken new_err.taken (refusal_line for_memory))
    ⊎ ((status ≡ 3) × GainsFront err.taken new_err.taken (refusal_line for_memory)
    × (HasFailed out.failures new_out.failures ⊎ HasFailed err.failures new_err.failures)))

-- it is answered, or memory ran out
abbrev pub OrLacks : (Written → Written → Written → Written → ℕ → Type 0) → Written → Written → Written → Written → ℕ → Type 0
OrLacks IsAnswered out new_out err new_err status = IsAnswered out new_out err new_err status ⊎ LacksMemory out new_out err new_err status

-- so it is by what two sinks tell
abbrev pub OrLacksMemory : {W E : Type 0} → (W → Option (List ℕ)) → (W → Option (List ℕ)) → (W → ℕ) → W → W → (E → Option (List ℕ)) → (E → Option (List ℕ)) → (E → ℕ) → E → E
    → (Written → Written → Written → Written → ℕ → Type 0) → ℕ → Type 0
OrLacksMemory taken flushed failures out new_out err_taken err_flushed err_failures err new_err IsAnswered =
    OrLacks IsAnswered (told_by taken flushed failures out) (told_by taken flushed failures new_out)
    (told_by err_taken err_flushed err_failures err) (told_by err_taken err_flushed err_failures new_err)

-- what is printed and told where `clap` answers in place of what it finds, and the exit status
abbrev pub IsTold : ErrorKind → List ℕ → List ℕ → ℕ → Type 0
IsTold kind printed told status = (status ≤ 3) × (kind ≡ OutOfMemory → (printed ≡ []) × (told ≡ refusal_line for_memory) × (status ≡ 1))

-- 1 where there is a violation
abbrev pub status_of_violations : List Violation → ℕ
status_of_violations [] = 0
status_of_violations (violation ∷ violations) = 1

-- What is printed and told of entries that are compiled at once, and the exit status: the listing or the violations of their store
-- are printed; or their refusal is told, or that memory ran out, and nothing is printed. What is told is explained or not.
pub data Compiles (explained : Bool) (entries : List Entry) (report : Report) (printed told : List ℕ) (status : ℕ) : Type 0 where
  lists : (store : Store) (rows : List Row) → report ≡ Listing → Of entries (accepts store) → AreRowsOf store rows
      → printed ≡ flat_map row_line rows → told ≡ [] → status ≡ 0 → Compiles explained entries report printed told status
  tells : (store : Store) (violations : List Violation) → report ≡ Violations → Of entries (accepts store) → AreViolationsOf store violations
      → printed ≡ violations_text violations → told ≡ [] → status ≡ status_of_violations violations → Compiles explained entries report printed told status
  is_refused : (refusal : Refusal) → Of entries (refuses refusal) → printed ≡ [] → told ≡ refusal_text explained refusal → status ≡ 1
      → Compiles explained entries report printed told status
  lacks_memory : printed ≡ [] → told ≡ refusal_text explained for_memory → status ≡ 1 → Compiles explained entries report printed told status

-- what stands behind the last slash of a path; all of it where there is none
pub record IsBaseName (path base : List ℕ) : Type 0 where
  pub no_slash : (i : ℕ) → i < length base → slice_index base i ≢ 47
  pub ends : (path ≡ base) ⊎ ((folder : List ℕ) × (path ≡ folder ++ 47 ∷ base))

-- the base name of a file less a final `.cil`
abbrev pub IsStem : List ℕ → List ℕ → Type 0
IsStem base name = (base ≡ name ++ codes ".cil") ⊎ ((base ≡ name) × ((front : List ℕ) → base ≢ front ++ codes ".cil"))

-- what a module is named in a file at a path
abbrev pub NamesModule : List ℕ → List ℕ → Type 0
NamesModule path name = (base : List ℕ) × IsBaseName path base × IsStem base name

-- what is told of what stands at a path: nothing, that it can't be read, a file's text, or the names in a folder
pub data Content : Type 0 where
  untold : Content
  unreadable : Content
  holds : List ℕ → Content
  is_folder : List (List ℕ) → Content

-- all of a text was read, or a beginning that is longer than a store takes
abbrev pub IsTextOf : List ℕ → List ℕ → Type 0
IsTextOf whole text =
    (text ≡ whole) ⊎ ((16777216 < length text) × ((rest : List ℕ) × (whole ≡ text ++ rest)))

-- a text was read of a file
abbrev pub IsReadOf : Content → List ℕ → Type 0
IsReadOf untold text = Unit {0}
IsReadOf unreadable text = ⊥
IsReadOf (holds whole) text = IsTextOf whole text
IsReadOf (is_folder names) text = ⊥

-- a file can't be read, where that is told
abbrev pub IsUnreadable : Content → Type 0
IsUnreadable untold = Unit {0}
IsUnreadable unreadable = Unit {0}
IsUnreadable (holds whole) = ⊥
IsUnreadable (is_folder names) = Unit {0}

-- the names in a folder were found, or that there is no folder
abbrev pub IsListed : Content → Option (List (List ℕ)) → Type 0
IsListed untold names = Unit {0}
IsListed unreadable names = names ≡ None
IsListed (holds whole) names = names ≡ None
IsListed (is_folder told) names = names ≡ Some told

-- an entry for a file at a path, of which a text was read
pub record IsEntryFor (path read : List ℕ) (entry : Entry) : Type 0 where
  pub named : NamesModule path entry.name
  pub priority : entry.priority ≡ 400
  pub text : entry.text ≡ read

-- an entry for a file at a path, by what is told of the files: the text is what was read of it
abbrev pub IsEntryAt : (List ℕ → Content) → List ℕ → Entry → Type 0
IsEntryAt content path entry =
    (text : List ℕ) × IsReadOf (content path) text × IsEntryFor path text entry

-- the line of a file that can't be read
abbrev pub unreadable_line : List ℕ → List ℕ
unreadable_line path = codes "unreadable " ++ (path ++ codes "\n")

-- What is printed and told of files that are compiled at once, and the exit status: what is of the texts that were read; or that
-- one of the files can't be read, or that memory ran out, and nothing is printed.
pub data CompilesFiles (content : List ℕ → Content) (paths : List (List ℕ)) (report : Report)
    (printed told : List ℕ) (status : ℕ) : Type 0 where
  compiles : (entries : List Entry) → AllZip (IsEntryAt content) paths entries
      → Compiles false entries report printed told status
      → CompilesFiles content paths report printed told status
  is_unreadable : (path : List ℕ) → Contains paths path → IsUnreadable (content path)
      → printed ≡ [] → told ≡ unreadable_line path → status ≡ 3
      → CompilesFiles content paths report printed told status
  is_not_held : printed ≡ [] → told ≡ refusal_line for_memory → status ≡ 1
      → CompilesFiles content paths report printed told status
