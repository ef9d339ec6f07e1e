-- Which counters move where a rule gives something else than it gave.
use Rattle.std.specs.Prelude.{ℕ, Bool, true, false, not}
use Rattle.cil_keyed_lines.specs.declared.symbol_key.SymbolKey.{SymbolKey}
use Rattle.cil_rule_shifts.specs.Reach.{gives, grants}
use Rattle.cil_text.specs.declared.statement.RuleKind.{RuleKind}
use Rattle.cil_rule_shifts.specs.declared.grant.Grant.{Grant}
use Rattle.cil_rule_shifts.specs.declared.head.RuleHead.{RuleHead}
use Rattle.cil_rule_shifts.specs.declared.reach.Reach.{Reach}

-- whether exactly one of two is true
abbrev pub differs : Bool → Bool → Bool
differs true b = not b
differs false b = b

-- whether the counter of a key and a target moves: wherever a rule gave or gives the access by its permits, and not both
abbrev pub moves_where : {A : Type 0} → Reach A → Reach A → RuleHead → SymbolKey × ℕ → Bool
moves_where was is head p = differs (gives was head p.0 p.1) (gives is head p.0 p.1)

-- wherever a rule of a kind gave the access by what it had, or gives it by what it has, and not both
abbrev pub moves_from : {A : Type 0} → RuleKind → Grant A → Grant A → SymbolKey × ℕ → Bool
moves_from kind was is p = differs (grants kind was p) (grants kind is p)
