-- Calls of an engine that is seen as its store, and their replies.
use Rattle.std.specs.Prelude.{◌≡◌, ℕ, Bool, true, false, List, [], ◌∷◌, flat_map}
use Rattle.cil_specs.specs.Rule.{Declared}
use Rattle.cil_specs.specs.Meaning.{Meaning, is_in_table}
use Rattle.cil_specs.specs.Report.{Changes, AreChanges, Row, AreRows, row_line}
use Rattle.cil_specs.specs.Violations.{Violation, AreViolations}
use Rattle.cil_store_specs.specs.Store.{Store}
use Rattle.cil_store_specs.specs.Next.{Edit, Refusal, by_store, at_place, for_memory, accepts, refuses, Next, IsMeaningOf}

-- a batch of edits, or the question for the rows of the listing, for its bytes, for the violations or for the optionals that drop
pub data Call : Type 0 where
  a_batch : List Edit → Call
  ask_rows : Call
  ask_listing : Call
  ask_violations : Call
  ask_dropped : Call

-- an edit is a batch of one
abbrev pub an_edit : Edit → Call
an_edit edit = a_batch (edit ∷ [])

pub data Reply : Type 0 where
  changed_by : Changes → Reply
  refused : Refusal → Reply
  listed : List Row → Reply
  printed : List ℕ → Reply
  violated : List Violation → Reply
  dropped_optionals : List Declared → Reply

-- whether a call is answered, that is, its reply isn't that memory ran out
abbrev pub is_answered : Reply → Bool
is_answered (changed_by changes) = true
is_answered (refused (by_store code word)) = true
is_answered (refused (at_place code module_name at word)) = true
is_answered (refused for_memory) = false
is_answered (listed rows) = true
is_answered (printed bytes) = true
is_answered (violated violations) = true
is_answered (dropped_optionals dropped) = true

-- The accepted batch moves to the next store, and the reply is the difference of the two tables.
pub record IsAccepted (old : Store) (edits : List Edit) (changes : Changes) (new : Store) : Type 0 where
  pub next : Next old edits (accepts new)
  pub before : Meaning
  pub after : Meaning
  pub meant : IsMeaningOf old before
  pub means : IsMeaningOf new after
  pub are_changes : AreChanges (is_in_table before) (is_in_table after) changes

-- the rows list the accesses that a store allows
abbrev pub AreRowsOf : Store → List Row → Type 0
AreRowsOf store rows = (meaning : Meaning) × IsMeaningOf store meaning × AreRows (is_in_table meaning) rows

-- the violations of a store
abbrev pub AreViolationsOf : Store → List Violation → Type 0
AreViolationsOf store violations = (meaning : Meaning) × IsMeaningOf store meaning × AreViolations meaning violations

-- the optionals of a store that drop
abbrev pub AreDroppedOf : Store → List Declared → Type 0
AreDroppedOf store dropped = (meaning : Meaning) × IsMeaningOf store meaning × (dropped ≡ meaning.dropped)

-- The reply to a call, and the store after it: a batch is accepted or refused; the rows of the table are listed, or their lines
-- printed; the violations are told, or the optionals that drop; or memory runs out, at any call. All but an accepted batch keep the
-- store.
pub data Step (old : Store) (call : Call) (reply : Reply) (new : Store) : Type 0 where
  accepted : (edits : List Edit) (changes : Changes) → call ≡ a_batch edits → reply ≡ changed_by changes → IsAccepted old edits changes new → Step old call reply new
  rejected : (edits : List Edit) (refusal : Refusal) → call ≡ a_batch edits → reply ≡ refused refusal → Next old edits (refuses refusal) → new ≡ old → Step old call reply new
  lists : (rows : List Row) → call ≡ ask_rows → reply ≡ listed rows → AreRowsOf old rows → new ≡ old → Step old call reply new
  prints : (rows : List Row) → call ≡ ask_listing → reply ≡ printed (flat_map row_line rows) → AreRowsOf old rows → new ≡ old → Step old call reply new
  tells_violations : (violations : List Violation) → call ≡ ask_violations → reply ≡ violated violations → AreViolationsOf old violations → new ≡ old → Step old call reply new
  tells_dropped : (dropped : List Declared) → call ≡ ask_dropped → reply ≡ dropped_optionals dropped → AreDroppedOf old dropped → new ≡ old → Step old call reply new
  out_of_memory : reply ≡ refused for_memory → new ≡ old → Step old call reply new

-- the replies to the calls, one step after another
abbrev pub Run : Store → List Call → List Reply → Store → Type 0
Run old [] [] new = new ≡ old
Run old (call ∷ calls) (reply ∷ replies) new = (mid : Store) × Step old call reply mid × Run mid calls replies new
Run old [] (reply ∷ replies) new = ⊥
Run old (call ∷ calls) [] new = ⊥
