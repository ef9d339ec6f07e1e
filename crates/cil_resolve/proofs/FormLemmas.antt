-- Statements that are rules, or that are of permission sets, by their kinds.
use Rattle.cil_resolve.proofs.Common.{◌≡◌, ℕ, Bool, true, false, true≢false, refl, sym, ap, Some, Word, WordExpr, RuleKind, Target, itself, the_named, ClassPermissions, anonymous, by_name, Form, block, optional, type_name, type_alias, alias_actual, type_attribute, attribute_set, common, class, class_common, class_order, class_permission, class_permission_set, rule, kind_of, rule_kind, classes, references, named_permissions, permissions_in, nodes_in, IsPermissionSet, IsRuleOfClass, IsRuleOfSet, NamesPermissions}
use Rattle.std.proofs.Common.{slice_get}
use Rattle.cil_text.specs.declared.statement.RuleKind as code
use Rattle.cil_text.specs.declared.statement.RuleKind.TheVariants as codes
use Rattle.cil_parse.specs.declared.row.StatementKind.{StatementKind}
use Rattle.cil_parse.specs.declared.row.StatementKind.TheVariants as kinds
use Rattle.cil_check.specs.Kinds.{is_rule_of_set}
use Rattle.cil_check.proofs.AskedLemmas.{is_to_word, is_to_self}

-- whether a statement of a kind is a rule of a class, and whether it says something of a permission set
abbrev pub is_of_class : StatementKind → Bool
is_of_class (kinds.Rule kind) = true
is_of_class (kinds.RuleToSelf kind) = true
is_of_class _ = false

abbrev pub is_set_statement : StatementKind → Bool
is_set_statement kinds.ClassPermissionSet = true
is_set_statement _ = false

pub no-set-statement : (kind : StatementKind) → (kind ≡ kinds.ClassPermissionSet → ⊥) → is_set_statement kind ≡ false
no-set-statement kinds.ClassPermissionSet never = absurd (never refl)
no-set-statement _ never = refl

pub form-of-class : (form : Form) → is_of_class (kind_of form) ≡ true → IsRuleOfClass form
form-of-class (rule kind source itself (anonymous the_class permissions)) e = (kind, source, itself, the_class, permissions, refl)
form-of-class (rule kind source (the_named word) (anonymous the_class permissions)) e = (kind, source, the_named word, the_class, permissions, refl)
form-of-class _ e = absurd (true≢false (sym e))

pub form-of-set : (form : Form) → is_rule_of_set (kind_of form) ≡ true → IsRuleOfSet form
form-of-set (rule kind source itself (by_name set)) e = (kind, source, itself, set, refl)
form-of-set (rule kind source (the_named word) (by_name set)) e = (kind, source, the_named word, set, refl)
form-of-set _ e = absurd (true≢false (sym e))

pub permission-set-form : (form : Form) → is_set_statement (kind_of form) ≡ true → IsPermissionSet form
permission-set-form (class_permission_set set the_class permissions) e = (set, the_class, permissions, refl)
permission-set-form (rule kind source itself (anonymous the_class permissions)) e = absurd (true≢false (sym e))
permission-set-form (rule kind source (the_named word) (anonymous the_class permissions)) e = absurd (true≢false (sym e))
permission-set-form _ e = absurd (true≢false (sym e))

-- the kind of the rules of a kind of statements
abbrev pub code_in : StatementKind → code.RuleKind
code_in (kinds.Rule kind) = kind
code_in (kinds.RuleToSelf kind) = kind
code_in (kinds.RuleOfSet kind) = kind
code_in (kinds.RuleToSelfOfSet kind) = kind
code_in _ = codes.Allow

pub rule-code : (kind : RuleKind) (source : Word) (target : Target) (permissions : ClassPermissions) → code_in (kind_of (rule kind source target permissions)) ≡ rule_kind kind
rule-code kind source itself (anonymous the_class permissions) = refl
rule-code kind source (the_named word) (anonymous the_class permissions) = refl
rule-code kind source itself (by_name set) = refl
rule-code kind source (the_named word) (by_name set) = refl

-- a rule's statement is of one of four kinds
pub rule-kinds : (kind : RuleKind) (source : Word) (target : Target) (permissions : ClassPermissions) (k : StatementKind) → k ≡ kind_of (rule kind source target permissions) → ((x : code.RuleKind) → k ≡ kinds.Rule x → ⊥)
    → ((x : code.RuleKind) → k ≡ kinds.RuleToSelf x → ⊥) → ((x : code.RuleKind) → k ≡ kinds.RuleOfSet x → ⊥) → ((x : code.RuleKind) → k ≡ kinds.RuleToSelfOfSet x → ⊥) → ⊥
rule-kinds kind source itself (anonymous the_class permissions) k is to_word to_self of_set self_of_set = to_self (rule_kind kind) is
rule-kinds kind source (the_named word) (anonymous the_class permissions) k is to_word to_self of_set self_of_set = to_word (rule_kind kind) is
rule-kinds kind source itself (by_name set) k is to_word to_self of_set self_of_set = self_of_set (rule_kind kind) is
rule-kinds kind source (the_named word) (by_name set) k is to_word to_self of_set self_of_set = of_set (rule_kind kind) is

pub word-aimed : (kind : RuleKind) (source : Word) (target : Target) (permissions : ClassPermissions) → is_to_word (kind_of (rule kind source target permissions)) ≡ true → (word : Word) × (target ≡ the_named word)
word-aimed kind source itself (anonymous the_class permissions) e = absurd (true≢false (sym e))
word-aimed kind source (the_named word) (anonymous the_class permissions) e = (word, refl)
word-aimed kind source itself (by_name set) e = absurd (true≢false (sym e))
word-aimed kind source (the_named word) (by_name set) e = (word, refl)

pub self-aimed : (kind : RuleKind) (source : Word) (target : Target) (permissions : ClassPermissions) → is_to_self (kind_of (rule kind source target permissions)) ≡ true → target ≡ itself
self-aimed kind source itself (anonymous the_class permissions) e = refl
self-aimed kind source (the_named word) (anonymous the_class permissions) e = absurd (true≢false (sym e))
self-aimed kind source itself (by_name set) e = refl
self-aimed kind source (the_named word) (by_name set) e = absurd (true≢false (sym e))

-- one of both it has
pub rule-aims : (kind : RuleKind) (source : Word) (target : Target) (permissions : ClassPermissions) → is_to_word (kind_of (rule kind source target permissions)) ≡ false
    → is_to_self (kind_of (rule kind source target permissions)) ≡ false → ⊥
rule-aims kind source itself (anonymous the_class permissions) e f = true≢false f
rule-aims kind source (the_named word) (anonymous the_class permissions) e f = true≢false e
rule-aims kind source itself (by_name set) e f = true≢false f
rule-aims kind source (the_named word) (by_name set) e f = true≢false e

-- a rule of a class names its permissions, and its class where this reference leads
pub rule-names : (form : Form) (k : ℕ) (kind : RuleKind) (source : Word) (target : Target) (the_class : Word) (permissions : WordExpr) → form ≡ rule kind source target (anonymous the_class permissions)
    → slice_get (references form) k ≡ Some (classes, the_class) → NamesPermissions form k the_class permissions
rule-names form k kind source target the_class permissions is refers = record {
  refers = refers;
  named = ap named_permissions is;
  words = ap permissions_in is;
  nodes = ap nodes_in is;
}

-- so does a statement of a permission set, behind the set
pub set-names : (form : Form) (set the_class : Word) (permissions : WordExpr) → form ≡ class_permission_set set the_class permissions → NamesPermissions form 1 the_class permissions
set-names form set the_class permissions is = record {
  refers = ap (λ f. slice_get (references f) 1) is;
  named = ap named_permissions is;
  words = ap permissions_in is;
  nodes = ap nodes_in is;
}
