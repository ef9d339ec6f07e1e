-- Statements that list permissions.
use Rattle.std.specs.Prelude.{Bool, true, false}
use Rattle.cil_parse.specs.declared.row.StatementKind.{StatementKind}
use Rattle.cil_parse.specs.declared.row.StatementKind.TheVariants as kinds

-- whether statements of a kind list permissions of their own
abbrev pub lists_own : StatementKind → Bool
lists_own kinds.Class = true
lists_own kinds.Common = true
lists_own _ = false
