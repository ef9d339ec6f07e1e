use Rattle.cil_resolve.proofs.Common.{◌≡◌, length, has_named}
use Rattle.cil_resolve.proofs.resolved.Resolved.has.Given as goal

-- what is left decides
abbrev pub invariant-loop-one : goal.invariant-loop-one
invariant-loop-one g l = has_named l.self.names.items l.left l.class l.permission ≡ has_named l.self.names.items l.given l.class l.permission

abbrev pub decreases-loop-one : goal.decreases-loop-one
decreases-loop-one g l = length l.left
