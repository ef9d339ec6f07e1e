-- Which counters an update moves, and how far the count of adjustments rises.
use Rattle.std.specs.Prelude.{◌≢◌, ◌+◌, ◌≤◌, ◌==◌, ℕ, Bool, List, length, nat_lt, not}
use Rattle.std.specs.List.{All, AllPairs}
use Rattle.cil_specs.specs.Meaning.{Meaning}
use Rattle.cil_specs.specs.Rule.{Rule, Atom}
use Rattle.cil_delta_specs.specs.Dirty.{AreDirtyGives}
use Rattle.cil_delta_specs.specs.Work.{raised}
use Rattle.cil_sums.specs.Rises.{RisesBy}
use Rattle.cil_sums.specs.Sums.{across, alone}
use Rattle.cil_keyed_lines.specs.declared.symbol_key.SymbolKey.{SymbolKey}
use Rattle.cil_matching.specs.Matching.{Matched}
use Rattle.cil_resolve.specs.Meter.{adjustments_in}
use Rattle.cil_resolve.specs.declared.meter.Meter.{Meter}
use Rattle.cil_resolve.specs.declared.numbered.NumberedRule.{NumberedRule}
use Rattle.cil_rule_shifts.specs.Moves.{differs, moves_from}
use Rattle.cil_rule_shifts.specs.declared.grant.Grant.{Grant}
use Rattle.cil_text.specs.declared.statement.RuleKind.{RuleKind}
use Rattle.cil_table_updates.specs.Given.{given, gives_by}
use Rattle.cil_table_updates.specs.declared.policy.Policy.{Policy}

-- what a counter counts the rules of: an access, by its kind and the symbols of its names
pub record Counter : Type 0 where
  pub key : SymbolKey
  pub target : ℕ

-- whether exactly one of what a rule of a kind gave and gives has the counter's access
abbrev pub shifts : {A : Type 0} → RuleKind → Grant A → Grant A → Counter → Bool
shifts kind was is c = moves_from kind was is (c.key, c.target)

-- whether a rule of a policy gives it
abbrev pub gives_it : {A : Type 0} → Policy A → NumberedRule A → Counter → Bool
gives_it p rule c = gives_by p c.key c.target rule

-- whether exactly one of a rule of the old policy and one of the new policy does
abbrev pub replaces : {A : Type 0} → Policy A → NumberedRule A → Policy A → NumberedRule A → Counter → Bool
replaces old old_rule new new_rule c = differs (gives_it old old_rule c) (gives_it new new_rule c)

-- the same of rules by their places
abbrev pub swaps : {A : Type 0} → Policy A → ℕ → Policy A → ℕ → Counter → Bool
swaps old i new j c = not (given old c.key c.target i == given new c.key c.target j)

-- whether the rule of a place of the old policy gives it, and the new policy doesn't have the rule
abbrev pub goes : {A : Type 0} → Policy A → Matched → ℕ → Counter → Bool
goes old m i c = nat_lt 0 (alone (given old c.key c.target) m.ahead i)

-- whether the rule of a place of a policy gives it
abbrev pub comes : {A : Type 0} → Policy A → ℕ → Counter → Bool
comes p j c = nat_lt 0 (given p c.key c.target j)

-- whether exactly one of the rule of a place of the new policy and the same rule of the old policy, if that has it, gives it
abbrev pub turns : {A : Type 0} → Policy A → Policy A → Matched → ℕ → Counter → Bool
turns old new m j c = not (across (given old c.key c.target) m.back j == given new c.key c.target j)

-- The adjustments rise by at most one for each access that a rule gives in one policy alone.
pub record AdjustsAtMost (old new : Meaning) (before after : ℕ) : Type 0 where
  pub pairs : List (Rule × Atom)
  pub dirty : AreDirtyGives old new pairs
  pub at_most : after ≤ before + length pairs

-- They rise at least by one for each counter that isn't what it was.
abbrev pub AdjustsAtLeast : (SymbolKey → ℕ → ℕ) → (SymbolKey → ℕ → ℕ) → ℕ → ℕ → Type 0
AdjustsAtLeast was is before after =
    (counters : List Counter) → All (λ c. was c.key c.target ≢ is c.key c.target) counters → AllPairs (λ c d. c ≢ d) counters → raised before (length counters) ≤ after

-- the adjustments of a meter rise by the counters of which a test holds
abbrev pub Adjusts : {X : Type 0} → (X → Bool) → (before after : Meter) → Type 0
Adjusts test before after = RisesBy test (adjustments_in before) (adjustments_in after)
