-- Violations by their numbers, and the parts of their lines.
use Rattle.std.specs.Prelude.{◌≡◌, ◌<◌, ℕ, List, [], ◌++◌, codes, decimal, length, map, slice_index_or, if◌then◌else◌}
use Rattle.std.specs.List.{All}
use Rattle.cil_specs.specs.Place.{Place}
use Rattle.cil_specs.specs.Statements.{allow, rule_word}
use Rattle.cil_specs.specs.Rule.{Rule, a_type, at_itself, of_set}
use Rattle.cil_resolve.specs.Resolved.{meaning_in}
use Rattle.cil_resolve.specs.Sets.{name_in}
use Rattle.cil_resolve.specs.Views.{RuleHead, rule_head}
use Rattle.cil_resolve.specs.declared.resolved.Resolved.{Resolved}
use Rattle.cil_resolve.specs.declared.set_permissions.ClassPermission.{ClassPermission}
use Rattle.cil_specs.specs.Violations.{Violation, violation_line}
use Rattle.cil_resolve.specs.SetPermissions.{AreInOrder}
use Rattle.cil_violations.specs.Permissions.{given_at, is_among, of_class, shared}
use Rattle.cil_violations.specs.declared.row.RowNumbers.{RowNumbers}

-- the rule that a place past the end of a list is read as
abbrev pub no_rule : Rule
no_rule = record {
  module_name = [];
  at = record { offset = 0; line = 0; column = 0 };
  kind = allow;
  source = a_type [];
  target = at_itself;
  permissions = of_set [];
}

-- the rule at a place
abbrev pub rule_in : {A : Type 0} → Resolved A → ℕ → Rule
rule_in r i = slice_index_or (meaning_in r).rules i no_rule

-- the permissions of a row's class that its rules share, by lists of what rules give
abbrev pub shared_in : {A : Type 0} → Resolved A → List (List ClassPermission) → RowNumbers → List ClassPermission
shared_in r lists row =
    shared (of_class row.class (given_at r.rules.items lists row.never)) (of_class row.class (given_at r.rules.items lists row.allowed))

-- the violation at numbers
abbrev pub violation_by : {A : Type 0} → Resolved A → List (List ClassPermission) → RowNumbers → Violation
violation_by r lists row = record {
  never = rule_in r row.never;
  allowed = rule_in r row.allowed;
  source = name_in r row.source;
  target = name_in r row.target;
  the_class = name_in r row.class;
  permissions = map (λ g. name_in r g.permission) (shared_in r lists row);
}

abbrev pub line_by : {A : Type 0} → Resolved A → List (List ClassPermission) → RowNumbers → List ℕ
line_by r lists row = violation_line (violation_by r lists row)

-- there are rules at the places of a row
pub record IsRow (rules : ℕ) (row : RowNumbers) : Type 0 where
  pub never : row.never < rules
  pub allowed : row.allowed < rules

-- there is a list for each rule, and what each gives is in order
pub record AreLists {A : Type 0} (r : Resolved A) (lists : List (List ClassPermission)) : Type 0 where
  pub len : length lists ≡ length r.rules.items
  pub rising : (i : ℕ) → AreInOrder (given_at r.rules.items lists i)

-- and there are rules at the places of all rows
pub record AreRows {A : Type 0} (r : Resolved A) (lists : List (List ClassPermission)) (rows : List RowNumbers) : Type 0 where
  pub listed : AreLists r lists
  pub each : All (IsRow (length (meaning_in r).rules)) rows

-- a word, a place of a module, and a space
abbrev pub place_text : List ℕ → List ℕ → Place → List ℕ
place_text word name at = word ++ codes " " ++ name ++ codes ":" ++ decimal at.line ++ codes ":" ++ decimal at.column ++ codes " "

-- the kind of a rule and its place
abbrev pub rule_text : RuleHead → List ℕ
rule_text r = place_text (rule_word r.kind) r.module_name r.at

-- a source, a target and a class
abbrev pub access_text : List ℕ → List ℕ → List ℕ → List ℕ
access_text source target the_class = source ++ codes " " ++ target ++ codes ":" ++ the_class ++ codes " { "

-- the line of a violation up to its permissions
abbrev pub head_by : {A : Type 0} → Resolved A → RowNumbers → List ℕ
head_by r row =
    rule_text (rule_head (rule_in r row.never))
    ++ (rule_text (rule_head (rule_in r row.allowed)) ++ access_text (name_in r row.source) (name_in r row.target) (name_in r row.class))

abbrev pub name_text : {A : Type 0} → Resolved A → ClassPermission → List ℕ
name_text r g = name_in r g.permission ++ codes " "

-- the name of a permission, if it is among others
abbrev pub shared_text : {A : Type 0} → Resolved A → List ClassPermission → ClassPermission → List ℕ
shared_text r others g = if is_among others g then name_text r g else []
