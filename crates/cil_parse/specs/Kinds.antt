-- What statements of a kind declare and look up.
use Rattle.std.specs.Prelude.{ℕ, zero, suc, Option, Some, None}
use Rattle.cil_specs.specs.Lookup as spec
use Rattle.cil_specs.specs.Lookup.{types, classes, commons, permission_sets, scopes}
use Rattle.cil_parse.specs.declared.row.StatementKind.{StatementKind}
use Rattle.cil_parse.specs.declared.row.StatementKind.TheVariants as kinds
use Rattle.cil_parse.specs.declared.table.Table.{Table}
use Rattle.cil_parse.specs.declared.table.Table.TheVariants.{Types, Classes, Commons, PermissionSets, Scopes}

abbrev pub table_of : Table → spec.Table
table_of Types = types
table_of Classes = classes
table_of Commons = commons
table_of PermissionSets = permission_sets
table_of Scopes = scopes

-- the table in which the first word is declared
abbrev pub declaring : StatementKind → Option Table
declaring kinds.Block = Some Scopes
declaring kinds.Optional = Some Scopes
declaring kinds.TypeName = Some Types
declaring kinds.TypeAlias = Some Types
declaring kinds.TypeAttribute = Some Types
declaring kinds.Common = Some Commons
declaring kinds.Class = Some Classes
declaring kinds.ClassPermission = Some PermissionSets
declaring _ = None

-- the table in which the word of an index is looked up
abbrev pub reference_table : StatementKind → ℕ → Option Table
reference_table kinds.TypeAliasActual zero = Some Types
reference_table kinds.TypeAliasActual (suc zero) = Some Types
reference_table kinds.TypeAttributeSet k = Some Types
reference_table kinds.ClassCommon zero = Some Classes
reference_table kinds.ClassCommon (suc zero) = Some Commons
reference_table kinds.ClassOrder k = Some Classes
reference_table kinds.ClassPermissionSet zero = Some PermissionSets
reference_table kinds.ClassPermissionSet (suc zero) = Some Classes
reference_table (kinds.Rule kind) zero = Some Types
reference_table (kinds.Rule kind) (suc zero) = Some Types
reference_table (kinds.Rule kind) (suc (suc zero)) = Some Classes
reference_table (kinds.RuleToSelf kind) zero = Some Types
reference_table (kinds.RuleToSelf kind) (suc zero) = Some Classes
reference_table (kinds.RuleOfSet kind) zero = Some Types
reference_table (kinds.RuleOfSet kind) (suc zero) = Some Types
reference_table (kinds.RuleOfSet kind) (suc (suc zero)) = Some PermissionSets
reference_table (kinds.RuleToSelfOfSet kind) zero = Some Types
reference_table (kinds.RuleToSelfOfSet kind) (suc zero) = Some PermissionSets
reference_table _ k = None
