use Rattle.cil_rule_shifts.proofs.Common.{◌≡◌, ◌||◌, has_key, is_key, is_line, IsDistinct, SymbolKey}
use Rattle.cil_rule_shifts.proofs.KeyLemmas.{first}
use Rattle.cil_rule_shifts.proofs.keys.push_keys.Given as goal

-- the keys of the permits so far are there, each once
abbrev pub invariant-loop-permit : goal.invariant-loop-permit
invariant-loop-permit g l =
    IsDistinct is_key l.keys.items × ((k : SymbolKey) → has_key l.keys.items k ≡ (has_key l.fn.keys.items k || is_line l.source (first l.permit-index l.head) k))
