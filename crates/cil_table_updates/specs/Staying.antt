-- Permission sets that permit what they did.
use Rattle.std.specs.Prelude.{◌≡◌, ℕ, Bool, true, List, Option, None, Some, Contains, slice_get, slice_index_or}
use Rattle.cil_matching.specs.Matching.{Matched}
use Rattle.cil_resolve.specs.declared.numbered.NumberedRule.{NumberedRule}
use Rattle.cil_resolve.specs.declared.numbered.ResolvedPermissions.{ResolvedPermissions}
use Rattle.cil_resolve.specs.declared.numbered.ResolvedPermissions.TheVariants as permits
use Rattle.cil_table_updates.specs.Moves.{AreWrittenAlike, PermitTheSame}
use Rattle.cil_table_updates.specs.declared.moves.PolicyRule.{PolicyRule}
use Rattle.cil_table_updates.specs.declared.policy.Policy.{Policy}

-- the number of the permission set that a rule names, if it names one
abbrev pub set_in : {A : Type 0} → ResolvedPermissions A → Option ℕ
set_in (permits.OfClass p) = None
set_in (permits.OfSet s) = Some s.set

-- a policy has a rule
abbrev pub HasRule : {A : Type 0} → Policy A → NumberedRule A → Type 0
HasRule p rule = Contains p.resolved.now.rules.items rule

-- Rules of a policy whose permissions are written the same permit the same.
abbrev pub PermitsAlike : {A : Type 0} → Policy A → Type 0
PermitsAlike {A = A} p = (rule other : NumberedRule A) → HasRule p rule → HasRule p other → AreWrittenAlike p rule p other → PermitTheSame p rule p other

-- Two rules are those of their policies, and their permissions are written the same.
pub record AreAlike {A : Type 0} (old new : PolicyRule A) : Type 0 where
  pub here : HasRule old.policy.now old.rule.now
  pub there : HasRule new.policy.now new.rule.now
  pub written : AreWrittenAlike old.policy.now old.rule.now new.policy.now new.rule.now

-- Two policies have rules at these places, and the permissions of these are written the same.
pub record AreAlikeAt {A : Type 0} (old : Policy A) (i : ℕ) (new : Policy A) (j : ℕ) : Type 0 where
  pub old_rule : NumberedRule A
  pub new_rule : NumberedRule A
  pub here : slice_get old.resolved.now.rules.items i ≡ Some old_rule
  pub there : slice_get new.resolved.now.rules.items j ≡ Some new_rule
  pub written : AreWrittenAlike old old_rule new new_rule

-- So do rules that are put together.
abbrev pub AreMatchedAlike : {A : Type 0} → Policy A → Policy A → Matched → Type 0
AreMatchedAlike old new m = (i j : ℕ) → slice_get m.back j ≡ Some (Some i) → AreAlikeAt old i new j

-- The permission set of a number of the new policy permits what it did: so do the rules that name it in both policies.
abbrev pub StaysSet : {A : Type 0} → Policy A → Policy A → ℕ → Type 0
StaysSet {A = A} old new n = (old_rule new_rule : NumberedRule A) → HasRule old old_rule → HasRule new new_rule → set_in new_rule.permissions ≡ Some n
    → AreWrittenAlike old old_rule new new_rule → PermitTheSame old old_rule new new_rule

-- what is known of the set of a number
abbrev pub answer_at : List (Option Bool) → ℕ → Option Bool
answer_at answers n = slice_index_or answers n None

-- the sets of which the answer is yes permit what they did
abbrev pub AreStaying : {A : Type 0} → Policy A → Policy A → List (Option Bool) → Type 0
AreStaying old new answers = (n : ℕ) → answer_at answers n ≡ Some true → StaysSet old new n
