-- The batch of a session, as the definitions see it.
use Rattle.std.specs.Prelude.{◌≡◌, ℕ, ◌+◌, ◌++◌, ◌∷◌, [], false, List, codes, Option, Some, None, Result, Ok, Err}
use Rattle.cil_store_specs.specs.Next.{Edit, for_memory, held_bytes, is_too_long}
use Rattle.cil_store_specs.specs.Run.{refused}
use Rattle.cil_store_specs.specs.Answers.{Answer, answer_of, a_line, a_refusal, Batch, HeldEdits, all_held, over_the_limits, without_memory, IsHeld, held_as, name_of}
use Rattle.cil_session.specs.declared.batch.NotHeld.{NotHeld}
use Rattle.cil_session.specs.declared.batch.NotHeld.TheVariants.{TooLong, Memory}

-- what a batch holds once an edit of it wasn't held
abbrev pub given_up : NotHeld → HeldEdits
given_up TooLong = over_the_limits
given_up Memory = without_memory

-- what it holds: its list, or nothing once an edit wasn't held
abbrev pub held_of : Option NotHeld → List Edit → HeldEdits
held_of None edits = all_held edits
held_of (Some fault) edits = given_up fault

-- a batch that is open, if one is, by the line feeds before its begin
abbrev pub opened : Option ℕ → Option NotHeld → List Edit → Option Batch
opened None fault edits = None
opened (Some line_feeds) fault edits = Some (record { line = 1 + line_feeds; held = held_of fault edits })

-- a list is kept only of a batch that is open and of which all edits are held
abbrev pub KeepsNoMore : Option ℕ → Option NotHeld → List Edit → Type 0
KeepsNoMore None fault edits = (fault ≡ None) × (edits ≡ [])
KeepsNoMore (Some line_feeds) None edits = Unit {0}
KeepsNoMore (Some line_feeds) (Some fault) edits = edits ≡ []

-- the batch once an edit isn't held that was given to it, if one is open
abbrev pub behind_fault : NotHeld → Option Batch → Option Batch
behind_fault why None = None
behind_fault why (Some b) = Some (record { line = b.line; held = given_up why })

-- a batch is open
abbrev pub IsOpen : Option Batch → Type 0
IsOpen now = (b : Batch) × (now ≡ Some b)

-- what answers an edit of a name that is given to an open batch
abbrev pub held_answer : Result (Unit {0}) NotHeld → List ℕ → Answer
held_answer (Ok done) name = a_line (codes "held\n")
held_answer (Err TooLong) name = a_refusal 35 name
held_answer (Err Memory) name = answer_of (refused for_memory)

-- The open batch has room for an edit of which this many bytes of text are counted.
abbrev pub CanHold : Option Batch → ℕ → Type 0
CanHold now len = (b : Batch) → now ≡ Some b → (edits : List Edit) × (b.held ≡ all_held edits) × ((edit : Edit) → held_bytes edit ≡ len → is_too_long (edits ++ edit ∷ []) ≡ false)

-- An edit was added to the open batch; or it isn't to be held, and why.
abbrev pub Adds : Option Batch → Option Batch → Edit → Result (Unit {0}) NotHeld → Type 0
Adds old new edit (Ok done) = (b : Batch) → old ≡ Some b → (edits : List Edit) × (b.held ≡ all_held edits) × (is_too_long (edits ++ edit ∷ []) ≡ false)
    × (new ≡ Some (record { line = b.line; held = all_held (edits ++ held_as edit ∷ []) }))
Adds old new edit (Err fault) = (new ≡ old) × ((b : Batch) → old ≡ Some b → IsHeld b.held edit (held_answer (Err fault) (name_of edit)) (given_up fault))

-- An edit was given to the open batch, and answered so.
abbrev pub IsGiven : Option Batch → Option Batch → Edit → Result (Unit {0}) NotHeld → Type 0
IsGiven old new edit result = (b : Batch) → old ≡ Some b
    → (held : HeldEdits) × (new ≡ Some (record { line = b.line; held = held })) × IsHeld b.held edit (held_answer result (name_of edit)) held
