-- What neverallow rules forbid and allow rules give: the violations, their order and their lines.
use Rattle.std.specs.Prelude.{◌≡◌, ◌≢◌, ◌↔◌, ℕ, ◌&&◌, List, [], ◌++◌, flat_map, codes, decimal, IsTrue, Contains}
use Rattle.std.specs.List.Sorted.{IsStrictlySortedBy}
use Rattle.std.specs.Ordering.{nat_cmp, on, then_cmp}
use Rattle.std.specs.declared.cmp.Ordering.{Ordering}
use Rattle.cil_specs.specs.Statements.{allow, neverallow, rule_word}
use Rattle.cil_specs.specs.Rule.{Rule}
use Rattle.cil_specs.specs.Meaning.{Meaning, covers}
use Rattle.cil_specs.specs.Report.{name_cmp}

-- A neverallow rule, an allow rule, and the permissions that both give to one source, target and class.
pub record Violation : Type 0 where
  pub never : Rule
  pub allowed : Rule
  pub source : List ℕ
  pub target : List ℕ
  pub the_class : List ℕ
  pub permissions : List (List ℕ)

-- The rules are those of the policy, each of its kind. The permissions are all those that both rules cover there, at least one, by
-- their bytes and each once.
pub record IsViolation (meaning : Meaning) (v : Violation) : Type 0 where
  pub never : Contains meaning.rules v.never
  pub forbids : v.never.kind ≡ neverallow
  pub allowed : Contains meaning.rules v.allowed
  pub permits : v.allowed.kind ≡ allow
  pub some : v.permissions ≢ []
  pub ordered : IsStrictlySortedBy name_cmp v.permissions
  pub exact : (p : List ℕ) → Contains v.permissions p ↔ IsTrue (covers meaning v.never v.source v.target v.the_class p && covers meaning v.allowed v.source v.target v.the_class p)

-- rules by their modules and offsets
abbrev pub rule_cmp : Rule → Rule → Ordering
rule_cmp = then_cmp (on (λ r. r.module_name) name_cmp) (on (λ r. r.at.offset) nat_cmp)

-- violations by the neverallow rule, the allow rule, source, target and class
abbrev pub violation_cmp : Violation → Violation → Ordering
violation_cmp = then_cmp (on (λ v. v.never) rule_cmp) (then_cmp (on (λ v. v.allowed) rule_cmp) (then_cmp (on (λ v. v.source) name_cmp)
    (then_cmp (on (λ v. v.target) name_cmp) (on (λ v. v.the_class) name_cmp))))

-- the violations of a policy, in order, each once
pub record AreViolations (meaning : Meaning) (violations : List Violation) : Type 0 where
  pub ordered : IsStrictlySortedBy violation_cmp violations
  pub exact : (v : Violation) → Contains violations v ↔ IsViolation meaning v

-- the kind of a rule, and where its ( stands
abbrev pub rule_place : Rule → List ℕ
rule_place r = rule_word r.kind ++ codes " " ++ r.module_name ++ codes ":" ++ decimal r.at.line ++ codes ":" ++ decimal r.at.column

-- the line of a violation
abbrev pub violation_line : Violation → List ℕ
violation_line v = rule_place v.never ++ codes " " ++ rule_place v.allowed ++ codes " " ++ v.source ++ codes " " ++ v.target ++ codes ":" ++ v.the_class ++ codes " { "
    ++ flat_map (λ p. p ++ codes " ") v.permissions ++ codes "};\n"

-- the report of violations
abbrev pub violations_text : List Violation → List ℕ
violations_text violations = flat_map violation_line violations
