use Rattle.std.proofs.Common.{◌≡◌, map, slice_index, take}
use Rattle.cil_rule_reach.proofs.permits.class_permits.Given as goal

-- so many are listed
abbrev pub invariant-loop-local : goal.invariant-loop-local
invariant-loop-local g l = l.list.items ≡ map (λ p. record { class = l.class; permission = slice_index l.numbering.symbols p }) (take l.local-index l.permissions)
