-- Statements that two policies have one behind the other.
use Rattle.std.specs.Prelude.{◌≡◌, ◌+◌, ◌<◌, ◌≤◌, ℕ, List, Option, true}
use Rattle.cil_resolve.specs.declared.numbered.NumberedRule.{NumberedRule}
use Rattle.cil_resolve.specs.declared.numbered.NumberedSet.{NumberedSet}
use Rattle.cil_matching.specs.Content.{SayTheSame, is_set_by}
use Rattle.cil_matching.specs.Matching.{AreSameAt}
use Rattle.cil_matching.specs.declared.compared.Modules.{Modules}

-- Two rules stand in two modules, at the same offset, and say the same.
pub record ArePaired {A : Type 0} (numbers : List (Option ℕ)) (modules : Modules) (rule other : NumberedRule A) : Type 0 where
  pub here : rule.module ≡ modules.old
  pub there : other.module ≡ modules.new
  pub offset : rule.at.offset ≡ other.at.offset
  pub says : SayTheSame numbers rule other

-- Two set statements do.
pub record ArePairedSets {A : Type 0} (numbers : List (Option ℕ)) (modules : Modules) (set other : NumberedSet A) : Type 0 where
  pub here : set.module ≡ modules.old
  pub there : other.module ≡ modules.new
  pub offset : set.at.offset ≡ other.at.offset
  pub says : is_set_by numbers set other ≡ true

-- From a place of one list up to another one the statements are the same as those behind a place of a second list, one by one.
abbrev pub AreSameUntil : {S : Type 0} → (S → S → Type 0) → List S → List S → ℕ → ℕ → ℕ → Type 0
AreSameUntil IsSame old new i j until = (k l : ℕ) → i ≤ k → k < until → l + i ≡ k + j → AreSameAt IsSame old new k l
