-- What the laws say of sessions.
use Rattle.std.specs.Prelude.{◌≡◌, ℕ, Bool, List}
use Rattle.std.specs.List.{AllByRecursion}
use Rattle.cil_store_specs.specs.Store.{Store}
use Rattle.cil_store_specs.specs.Next.{for_memory}
use Rattle.cil_store_specs.specs.Script.{refusal_line}
use Rattle.cil_store_specs.specs.Answers.{Answer}
use Rattle.cil_store_specs.specs.Session.{IsSession, Status}

-- what a store has before a session, it has after it
abbrev pub SessionsKeep : (Store → Type 0) → Type 0
SessionsKeep P = (given : List ℕ) (ended : Bool) (old new : Store) (written : List ℕ) (status : Status) → P old
    → IsSession given ended old new written status → P new

-- no answer says that memory ran out
abbrev pub NeverForMemory : List Answer → Type 0
NeverForMemory answers = AllByRecursion (λ a. a.bytes ≡ refusal_line for_memory → ⊥) answers
