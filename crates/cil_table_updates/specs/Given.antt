-- What the rules of a policy give, by symbols, rule by rule.
use Rattle.std.specs.Prelude.{ℕ, Bool, false, Option, length, slice_get}
use Rattle.std.specs.Option.{option_map_or}
use Rattle.cil_keyed_lines.specs.declared.symbol_key.SymbolKey.{SymbolKey}
use Rattle.cil_resolve.specs.declared.numbered.NumberedRule.{NumberedRule}
use Rattle.cil_rule_reach.specs.Reaches.{covers_by, members_of}
use Rattle.cil_matching.specs.Matching.{Matched}
use Rattle.cil_rule_shifts.specs.Reach.{one_if}
use Rattle.cil_sums.specs.Sums.{across, alone, sum_below}
use Rattle.cil_table_updates.specs.declared.policy.Policy.{Policy}

-- whether a rule of a policy gives an access
abbrev pub gives_by : {A : Type 0} → Policy A → SymbolKey → ℕ → NumberedRule A → Bool
gives_by p key t rule = covers_by (members_of p.members) p.numbering.now.symbols rule key t

-- 1 where the rule at a place gives it; 0 where there is no rule
unfoldable pub given : {A : Type 0} → Policy A → SymbolKey → ℕ → ℕ → ℕ
given p key t i = one_if (option_map_or (gives_by p key t) (slice_get p.resolved.now.rules.items i) false)

-- the same for a rule that has a place
abbrev pub given_at : {A : Type 0} → Policy A → SymbolKey → ℕ → Option ℕ → ℕ
given_at p key t place = option_map_or (given p key t) place 0

-- The amounts by which the counters of accesses move. 1 where a rule of a policy gives the access,
abbrev pub given_by : {A : Type 0} → Policy A → NumberedRule A → SymbolKey → ℕ → ℕ
given_by p rule key t = one_if (gives_by p key t rule)

-- where the rule at a place does,
abbrev pub given_there : {A : Type 0} → Policy A → ℕ → SymbolKey → ℕ → ℕ
given_there p i key t = given p key t i

-- where that of the old policy does, which the new one doesn't have,
abbrev pub gone_there : {A : Type 0} → Policy A → Matched → ℕ → SymbolKey → ℕ → ℕ
gone_there old m i key t = alone (given old key t) m.ahead i

-- and where the rule of the old policy does that is the same as one at a place of the new policy
abbrev pub stayed_there : {A : Type 0} → Policy A → Matched → ℕ → SymbolKey → ℕ → ℕ
stayed_there old m j key t = across (given old key t) m.back j

-- how many rules a policy has
abbrev pub rules_in : {A : Type 0} → Policy A → ℕ
rules_in p = length p.resolved.now.rules.items

-- how many of all the rules do so
abbrev pub all_given : {A : Type 0} → Policy A → SymbolKey → ℕ → ℕ
all_given p key t = sum_below (given p key t) (rules_in p)

abbrev pub all_gone : {A : Type 0} → Policy A → Matched → SymbolKey → ℕ → ℕ
all_gone old m key t = sum_below (alone (given old key t) m.ahead) (rules_in old)

abbrev pub all_stayed : {A : Type 0} → Policy A → Policy A → Matched → SymbolKey → ℕ → ℕ
all_stayed old new m key t = sum_below (across (given old key t) m.back) (rules_in new)
