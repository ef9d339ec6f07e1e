-- What a statement says, by its kind, its words and the nodes of its expression.
use Rattle.std.specs.Prelude.{ℕ, zero, suc, Bool, true, false, List, [], ◌∷◌, ◌++◌, if◌then◌else◌}
use Rattle.cil_specs.specs.Names.{Word}
use Rattle.cil_specs.specs.Expr as exprs
use Rattle.cil_specs.specs.Expr.{every, named, opposite, both, either, one_of, nothing, elements, leaves}
use Rattle.cil_specs.specs.Statements as spec
use Rattle.cil_specs.specs.Statements.{allow, auditallow, dontaudit, neverallow, itself, the_named, Form, block, optional, type_name, type_alias, alias_actual, type_attribute, attribute_set, common, class, class_common, class_order, class_permission, class_permission_set, rule, ClassPermissions, anonymous, by_name, target_words}
use Rattle.cil_text.specs.declared.statement.RuleKind as code
use Rattle.cil_text.specs.declared.statement.RuleKind.TheVariants.{Allow, AuditAllow, DontAudit, NeverAllow}
use Rattle.cil_parse.specs.declared.row.SetNode.{SetNode}
use Rattle.cil_parse.specs.declared.row.SetNode.TheVariants as nodes
use Rattle.cil_parse.specs.declared.row.StatementKind.{StatementKind}
use Rattle.cil_parse.specs.declared.row.StatementKind.TheVariants as kinds

-- the nodes of an expression, each in front of those of its operands
abbrev pub expr_nodes : exprs.WordExpr → List SetNode
expr_nodes every = nodes.All ∷ []
expr_nodes (named word) = nodes.Name ∷ []
expr_nodes (opposite x) = nodes.Not ∷ expr_nodes x
expr_nodes (both x y) = nodes.And ∷ (expr_nodes x ++ expr_nodes y)
expr_nodes (either x y) = nodes.Or ∷ (expr_nodes x ++ expr_nodes y)
expr_nodes (one_of x y) = nodes.Xor ∷ (expr_nodes x ++ expr_nodes y)
expr_nodes nothing = nodes.Nothing ∷ []
expr_nodes (elements x more) = nodes.Element ∷ (expr_nodes x ++ expr_nodes more)

-- the nodes of so many elements that are names
abbrev pub name_nodes : ℕ → List SetNode
name_nodes zero = []
name_nodes (suc count) = nodes.Element ∷ nodes.Name ∷ name_nodes count

-- the list of these names, and behind them the elements of another
abbrev pub names_then : List Word → exprs.WordExpr → exprs.WordExpr
names_then [] more = more
names_then (name ∷ names) more = elements (named name) (names_then names more)

abbrev pub rule_kind : spec.RuleKind → code.RuleKind
rule_kind allow = Allow
rule_kind auditallow = AuditAllow
rule_kind dontaudit = DontAudit
rule_kind neverallow = NeverAllow

abbrev pub kind_of : Form → StatementKind
kind_of (block id) = kinds.Block
kind_of (optional id) = kinds.Optional
kind_of (type_name id) = kinds.TypeName
kind_of (type_alias id) = kinds.TypeAlias
kind_of (alias_actual alias actual) = kinds.TypeAliasActual
kind_of (type_attribute id) = kinds.TypeAttribute
kind_of (attribute_set attribute expr) = kinds.TypeAttributeSet
kind_of (common id permissions) = kinds.Common
kind_of (class id permissions) = kinds.Class
kind_of (class_common the_class the_common) = kinds.ClassCommon
kind_of (class_order classes) = kinds.ClassOrder
kind_of (class_permission id) = kinds.ClassPermission
kind_of (class_permission_set set the_class permissions) = kinds.ClassPermissionSet
kind_of (rule kind source itself (anonymous the_class permissions)) = kinds.RuleToSelf (rule_kind kind)
kind_of (rule kind source (the_named word) (anonymous the_class permissions)) = kinds.Rule (rule_kind kind)
kind_of (rule kind source itself (by_name set)) = kinds.RuleToSelfOfSet (rule_kind kind)
kind_of (rule kind source (the_named word) (by_name set)) = kinds.RuleOfSet (rule_kind kind)

-- the names of a rule's permissions: a class and those of it, or a permission set
abbrev pub words_with : ClassPermissions → List Word
words_with (anonymous the_class permissions) = the_class ∷ leaves permissions
words_with (by_name set) = set ∷ []

-- the names, references and permissions, in the order of the text
abbrev pub words_in : Form → List Word
words_in (block id) = id ∷ []
words_in (optional id) = id ∷ []
words_in (type_name id) = id ∷ []
words_in (type_alias id) = id ∷ []
words_in (alias_actual alias actual) = alias ∷ actual ∷ []
words_in (type_attribute id) = id ∷ []
words_in (attribute_set attribute expr) = attribute ∷ leaves expr
words_in (common id permissions) = id ∷ permissions
words_in (class id permissions) = id ∷ permissions
words_in (class_common the_class the_common) = the_class ∷ the_common ∷ []
words_in (class_order classes) = classes
words_in (class_permission id) = id ∷ []
words_in (class_permission_set set the_class permissions) = set ∷ words_with (anonymous the_class permissions)
words_in (rule kind source target permissions) = source ∷ (target_words target ++ words_with permissions)

-- whether an expression is a plain list of names: none of its elements is an expression of another sort
abbrev pub is_plain : {leaf : Type 0} → exprs.Expr leaf → Bool
is_plain nothing = true
is_plain (elements (named word) more) = is_plain more
is_plain _ = false

-- The nodes of an expression of permissions. A plain list, as nearly every rule has one, has none: its words tell it.
abbrev pub permission_nodes : exprs.WordExpr → List SetNode
permission_nodes expr = if is_plain expr then [] else expr_nodes expr

abbrev pub nodes_with : ClassPermissions → List SetNode
nodes_with (anonymous the_class permissions) = permission_nodes permissions
nodes_with (by_name set) = []

abbrev pub nodes_in : Form → List SetNode
nodes_in (attribute_set attribute expr) = expr_nodes expr
nodes_in (class_permission_set set the_class permissions) = permission_nodes permissions
nodes_in (rule kind source target permissions) = nodes_with permissions
nodes_in _ = []

-- the permissions that a statement names
abbrev pub permissions_in : Form → List Word
permissions_in (common id permissions) = permissions
permissions_in (class id permissions) = permissions
permissions_in (class_permission_set set the_class permissions) = leaves permissions
permissions_in (rule kind source target (anonymous the_class permissions)) = leaves permissions
permissions_in _ = []
