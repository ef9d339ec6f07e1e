use Rattle.cil_resolve.proofs.Common.{◌≡◌, [], bytes_eq, get_or, length, map, list_any}
use Rattle.cil_resolve.proofs.resolved.Resolved.is_at.Given as goal

abbrev pub invariant-loop-number : goal.invariant-loop-number
invariant-loop-number g l = list_any (bytes_eq l.name) (map (λ n. get_or l.self.names.items n []) l.left) ≡ list_any (bytes_eq l.name) (map (λ n. get_or l.self.names.items n []) l.numbers)

abbrev pub decreases-loop-number : goal.decreases-loop-number
decreases-loop-number g l = length l.left
