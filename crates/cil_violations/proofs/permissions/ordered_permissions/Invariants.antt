use Rattle.cil_violations.proofs.Common.{◌≡◌, ◌<◌, ℕ, [], length, slice_get, Some, get_or, NumberedRule, IsOrdered, given_in, or_else, permission_cmp, set_gives}
use Rattle.cil_violations.proofs.permissions.ordered_permissions.Given as goal

abbrev pub invariant-loop-rule : goal.invariant-loop-rule
invariant-loop-rule g l = record {
  closed : l.lists.1 ≡ [];
  len : length l.lists.0 ≡ l.rule-index;
  each : (i : ℕ) (r : NumberedRule _) → i < l.rule-index → slice_get l.rules i ≡ Some r
      → IsOrdered permission_cmp (given_in r.permissions) (or_else (get_or l.lists.0 i []) (set_gives r.permissions));
}
