use Rattle.cil_optionals.proofs.Common.{◌≡◌, List, Some, slice_get, take, Placed, restricted, references, IsReady, are_found, optional_at, Asks, IsOf}
use Rattle.cil_optionals.proofs.references.references.Given as goal

-- so many references
abbrev pub invariant-loop-k : goal.invariant-loop-k
invariant-loop-k g l = (all : List Placed) (s : Placed) → IsReady l.policy l.fn.joined.modules.items all → slice_get all l.i ≡ Some s → IsOf l.policy l.«module» l.i s
    → Asks all (optional_at l.policy l.i) (λ set. are_found (restricted set all) s.namespace (take l.k (references s.form))) l.fn.needs.items l.needs.items
