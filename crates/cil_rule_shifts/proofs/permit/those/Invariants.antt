use Rattle.std.proofs.Common.{◌≡◌, take, filter}
use Rattle.cil_rule_shifts.specs.Moves.{differs}
use Rattle.cil_rule_shifts.specs.Permits.{has_permit}
use Rattle.cil_rule_shifts.proofs.permit.those.Given as goal

-- those of the permits so far are listed
abbrev pub invariant-loop-permit : goal.invariant-loop-permit
invariant-loop-permit g l = l.list.items ≡ filter (λ p. differs (has_permit l.others p.class p.permission) l.except) (take l.permit-index l.permits)
