-- The values of the definitions that expressions and statements of the code stand for, and those of places, words, trees and
-- faults, passed on.
pub use Rattle.cil_reader.specs.Image.{FaultIs, kind_of, place_of, shown, tree_then, trees_of, word_of}
use Rattle.std.specs.Prelude.{List, [], ◌∷◌, map}
use Rattle.cil_specs.specs.Expr as spec_exprs
use Rattle.cil_specs.specs.Expr.{every, named, opposite, both, either, one_of, nothing, elements}
use Rattle.cil_specs.specs.Statements as spec_statements
use Rattle.cil_specs.specs.Statements.{allow, auditallow, dontaudit, neverallow, itself, the_named, block, optional, type_name, type_alias, alias_actual, type_attribute, attribute_set, common, class, class_common, class_order, class_permission, class_permission_set, rule, anonymous, by_name, Statements, no_more, statement}
use Rattle.cil_text.specs.declared.statement.RuleKind.{RuleKind}
use Rattle.cil_text.specs.declared.statement.RuleKind.TheVariants.{Allow, AuditAllow, DontAudit, NeverAllow}
use Rattle.cil_text.specs.declared.statement.Target.{Target}
use Rattle.cil_text.specs.declared.statement.Target.TheVariants.{Itself, Named}
use Rattle.cil_text.specs.declared.statement.Expr.{Expr, All, Name, Not', And', Or', Xor', Union', Row_of-Expr, end_of-Expr, more_of-Expr}
use Rattle.cil_text.specs.declared.statement.ClassPermissions.{ClassPermissions}
use Rattle.cil_text.specs.declared.statement.ClassPermissions.TheVariants as permits
use Rattle.cil_text.specs.declared.statement.Statement.{Statement, Block', Optional', TypeName, TypeAlias, TypeAliasActual, TypeAttribute, TypeAttributeSet, Common, Class, ClassCommon, ClassOrder, ClassPermission, ClassPermissionSet, Rule, Row_of-Statement, end_of-Statement, more_of-Statement}

abbrev pub rule_kind_of : RuleKind → spec_statements.RuleKind
rule_kind_of Allow = allow
rule_kind_of AuditAllow = auditallow
rule_kind_of DontAudit = dontaudit
rule_kind_of NeverAllow = neverallow

abbrev pub target_of : Target → spec_statements.Target
target_of Itself = itself
target_of (Named w) = the_named (word_of w)

abbrev mutual
  pub expr_of : {A : Type 0} → Expr A → spec_exprs.WordExpr
  expr_of All = every
  expr_of (Name w) = named (word_of w)
  expr_of (Not' p x) = opposite (expr_of x)
  expr_of (And' p x q y) = both (expr_of x) (expr_of y)
  expr_of (Or' p x q y) = either (expr_of x) (expr_of y)
  expr_of (Xor' p x q y) = one_of (expr_of x) (expr_of y)
  expr_of (Union' shape items) = row_expr items

  pub row_expr : {A : Type 0} {n : _} → Row_of-Expr A n → spec_exprs.WordExpr
  row_expr end_of-Expr = nothing
  row_expr (more_of-Expr x rest) = elements (expr_of x) (row_expr rest)

abbrev pub permissions_of : {A : Type 0} → ClassPermissions A → spec_statements.ClassPermissions
permissions_of (permits.Anonymous the_class permissions) = anonymous (word_of the_class) (expr_of permissions)
permissions_of (permits.Named set) = by_name (word_of set)

abbrev mutual
  -- the statement, and then the rest
  pub statement_then : {A : Type 0} → Statement A → Statements → Statements
  statement_then (Block' at id shape body) rest = statement (place_of at) (block (word_of id)) (row_statements body) rest
  statement_then (Optional' at id shape body) rest = statement (place_of at) (optional (word_of id)) (row_statements body) rest
  statement_then (TypeName at id) rest = statement (place_of at) (type_name (word_of id)) no_more rest
  statement_then (TypeAlias at id) rest = statement (place_of at) (type_alias (word_of id)) no_more rest
  statement_then (TypeAliasActual at alias actual) rest = statement (place_of at) (alias_actual (word_of alias) (word_of actual)) no_more rest
  statement_then (TypeAttribute at id) rest = statement (place_of at) (type_attribute (word_of id)) no_more rest
  statement_then (TypeAttributeSet at attribute expr) rest = statement (place_of at) (attribute_set (word_of attribute) (expr_of expr)) no_more rest
  statement_then (Common at id permissions) rest = statement (place_of at) (common (word_of id) (map word_of permissions.items)) no_more rest
  statement_then (Class at id permissions) rest = statement (place_of at) (class (word_of id) (map word_of permissions.items)) no_more rest
  statement_then (ClassCommon at the_class the_common) rest = statement (place_of at) (class_common (word_of the_class) (word_of the_common)) no_more rest
  statement_then (ClassOrder at the_classes) rest = statement (place_of at) (class_order (map word_of the_classes.items)) no_more rest
  statement_then (ClassPermission at id) rest = statement (place_of at) (class_permission (word_of id)) no_more rest
  statement_then (ClassPermissionSet at set the_class permissions) rest =
      statement (place_of at) (class_permission_set (word_of set) (word_of the_class) (expr_of permissions)) no_more rest
  statement_then (Rule at kind source target permissions) rest =
      statement (place_of at) (rule (rule_kind_of kind) (word_of source) (target_of target) (permissions_of permissions)) no_more rest

  pub row_statements : {A : Type 0} {n : _} → Row_of-Statement A n → Statements
  row_statements end_of-Statement = no_more
  row_statements (more_of-Statement s rest) = statement_then s (row_statements rest)

abbrev pub statements_of : {A : Type 0} → List (Statement A) → Statements
statements_of [] = no_more
statements_of (s ∷ ss) = statement_then s (statements_of ss)
