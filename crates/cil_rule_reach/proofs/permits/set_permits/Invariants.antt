use Rattle.std.proofs.Common.{◌≡◌, map, take}
use Rattle.cil_rule_reach.specs.Reaches.{permit_by}
use Rattle.cil_rule_reach.proofs.permits.set_permits.Given as goal

-- so many are listed
abbrev pub invariant-loop-local : goal.invariant-loop-local
invariant-loop-local g l = l.list.items ≡ map (permit_by l.numbering.symbols) (take l.local-index l.given)
