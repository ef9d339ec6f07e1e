-- What lets a rule's counters be moved.
use Rattle.std.specs.Prelude.{◌≡◌, ◌≤◌, ℕ, Bool, true, false, IsTrue, is_none, length, slice_get, Some}
use Rattle.std.specs.List.{list_all}
use Rattle.cil_matching.specs.Matching.{Matched}
use Rattle.cil_member_rows.specs.Rows.{count_before, count_now}
use Rattle.cil_recorded.specs.Recorded.{State}
use Rattle.cil_resolve.specs.Below.{is_rule_below}
use Rattle.cil_resolve.specs.Numbers.{resolved_permissions_of}
use Rattle.cil_resolve.specs.declared.numbered.NumberedRule.{NumberedRule}
use Rattle.cil_resolve.specs.declared.numbered.ResolvedPermissions.{ResolvedPermissions}
use Rattle.cil_resolve.specs.declared.numbered.ResolvedPermissions.TheVariants as permits
use Rattle.cil_rule_reach.specs.Reaches.{members_of, permits_by, reaches_by}
use Rattle.cil_table_updates.specs.declared.policy.Policy.{Policy}

-- the names of a rule of a policy have symbols
abbrev pub IsRuleOf : {A : Type 0} → Policy A → NumberedRule A → Type 0
IsRuleOf p rule = IsTrue (is_rule_below (length p.numbering.now.symbols) rule)

-- No symbol behind those of all names is that of a name of the policy, or that of a member.
pub record IsKnown {A : Type 0} (p : Policy A) : Type 0 where
  pub symbols : p.numbering.now.count ≤ p.members.symbols
  pub none : (a t : ℕ) → p.members.symbols ≤ t → members_of p.members a t ≡ 0

-- and the names of the rules have symbols
pub record IsReady {A : Type 0} (p : Policy A) : Type 0 where
  pub below : IsTrue (list_all (is_rule_below (length p.numbering.now.symbols)) p.resolved.now.rules.items)
  pub known : IsKnown p

-- whether permissions are those of a class by a plain list
abbrev pub are_listed : {A : Type 0} → ResolvedPermissions A → Bool
are_listed (permits.OfClass p) = is_none p.written
are_listed (permits.OfSet s) = false

-- whether a rule's are
abbrev pub is_plain_list : {A : Type 0} → NumberedRule A → Bool
is_plain_list rule = are_listed rule.permissions

-- the permissions of rules of two policies are written the same, by their names
abbrev pub AreWrittenAlike : {A : Type 0} → (old : Policy A) → NumberedRule A → (new : Policy A) → NumberedRule A → Type 0
AreWrittenAlike old old_rule new new_rule = resolved_permissions_of old.resolved.now.names.items old_rule.permissions ≡ resolved_permissions_of new.resolved.now.names.items new_rule.permissions

-- rules of two policies permit the same
abbrev pub PermitTheSame : {A : Type 0} → (old : Policy A) → NumberedRule A → (new : Policy A) → NumberedRule A → Type 0
PermitTheSame old old_rule new new_rule = (c p : ℕ) → permits_by old.numbering.now.symbols old_rule c p ≡ permits_by new.numbering.now.symbols new_rule c p

-- Rules of these numbers are of the same kind, reach the same where they are asked by the same members, have permissions that are written
-- the same, and permit the same where that is a plain list. The members of the one are those before the steps, and those of the other the ones now.
pub record IsReplaced {A : Type 0} (rows : State) (old : Policy A) (i : ℕ) (new : Policy A) (j : ℕ) : Type 0 where
  pub old_rule : NumberedRule A
  pub new_rule : NumberedRule A
  pub here : slice_get old.resolved.now.rules.items i ≡ Some old_rule
  pub there : slice_get new.resolved.now.rules.items j ≡ Some new_rule
  pub kind : old_rule.kind ≡ new_rule.kind
  pub reached : (s t : ℕ) → reaches_by (members_of old.members) old.numbering.now.symbols old_rule s t ≡ reaches_by (count_before rows) new.numbering.now.symbols new_rule s t
  pub reaches : (s t : ℕ) → reaches_by (members_of new.members) new.numbering.now.symbols new_rule s t ≡ reaches_by (count_now rows) new.numbering.now.symbols new_rule s t
  pub written : AreWrittenAlike old old_rule new new_rule
  pub permits : is_plain_list new_rule ≡ true → PermitTheSame old old_rule new new_rule

-- Rules that are put together are so.
abbrev pub AreReplaced : {A : Type 0} → State → Policy A → Policy A → Matched → Type 0
AreReplaced rows old new m = (i j : ℕ) → slice_get m.back j ≡ Some (Some i) → IsReplaced rows old i new j
