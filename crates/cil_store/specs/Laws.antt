-- What the laws say of edits, runs and sessions.
use Rattle.std.specs.Prelude.{◌≡◌, ◌⊎◌, true, List}
use Rattle.std.specs.List.{AllByRecursion}
use Rattle.cil_store_specs.specs.Store.{Store, empty}
use Rattle.cil_store_specs.specs.Next.{Edit, IsTaken, for_memory}
use Rattle.cil_store_specs.specs.Run.{Call, Reply, Run}
use Rattle.cil_store_specs.specs.Script.{refusal_line}
use Rattle.cil_store_specs.specs.Answers.{Answer}
use Rattle.cil_store_specs.specs.Session.{Status, all_accepted, some_refused}

-- what a store has, so has each store to which an edit leads
abbrev pub EditsKeep : (Store → Type 0) → Type 0
EditsKeep P = (old new : Store) (edit : Edit) → P old → IsTaken old edit new → P new

-- and each to which a run of calls leads
abbrev pub RunsKeep : (Store → Type 0) → Type 0
RunsKeep P = (old new : Store) (calls : List Call) (replies : List Reply) → P old → Run old calls replies new → P new

-- each answer that is a refusal says that memory ran out
abbrev pub ForMemoryAlone : List Answer → Type 0
ForMemoryAlone answers = AllByRecursion (λ a. a.refuses ≡ true → a.bytes ≡ refusal_line for_memory) answers

-- What a session that starts where no module stands leaves, over the dump of a store: that store, and all was accepted; or no module
-- stands there still, since memory ran out, as each refusal says.
abbrev pub IsTakenBack : Store → Store → Status → List Answer → Type 0
IsTakenBack store new status answers =
    ((status ≡ all_accepted) × (new ≡ store)) ⊎ ((status ≡ some_refused) × (new ≡ empty) × ForMemoryAlone answers)
