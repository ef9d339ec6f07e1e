-- What is read of a violation.
use Rattle.std.specs.Prelude.{ℕ, List}
use Rattle.cil_resolve.specs.Views.{RuleHead, rule_head, rule_seen}
use Rattle.cil_specs.specs.Violations as spec
use Rattle.cil_violations.specs.declared.violation.Violation.{Violation}

-- a violation but for the permissions of its rules, which are counted
pub record ViolationHead : Type 0 where
  pub never : RuleHead
  pub allowed : RuleHead
  pub source : List ℕ
  pub target : List ℕ
  pub the_class : List ℕ
  pub permissions : List (List ℕ)

abbrev pub violation_head : spec.Violation → ViolationHead
violation_head v = record {
  never = rule_head v.never;
  allowed = rule_head v.allowed;
  source = v.source;
  target = v.target;
  the_class = v.the_class;
  permissions = v.permissions;
}

abbrev pub violation_seen : {A : Type 0} → Violation A → ViolationHead
violation_seen v = record {
  never = rule_seen v.never;
  allowed = rule_seen v.allowed;
  source = v.source.now;
  target = v.target.now;
  the_class = v.class.now;
  permissions = v.permissions;
}
