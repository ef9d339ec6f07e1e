-- The statements that are about names: all but rules and set statements, which most are.
use Rattle.std.specs.Prelude.{ℕ, ◌+◌, Bool, true, false, List, [], ◌∷◌, if◌then◌else◌}
use Rattle.cil_parse.specs.declared.row.StatementKind.{StatementKind}
use Rattle.cil_parse.specs.declared.row.StatementKind.TheVariants as kinds

-- whether statements of a kind are about names
abbrev pub is_about_names : StatementKind → Bool
is_about_names kinds.TypeAttributeSet = false
is_about_names (kinds.Rule _) = false
is_about_names (kinds.RuleToSelf _) = false
is_about_names (kinds.RuleOfSet _) = false
is_about_names (kinds.RuleToSelfOfSet _) = false
is_about_names _ = true

-- the places of the statements about names, by the kinds of all, the first of which has this place
abbrev pub name_places : ℕ → List StatementKind → List ℕ
name_places n [] = []
name_places n (kind ∷ kinds) = if is_about_names kind then n ∷ name_places (n + 1) kinds else name_places (n + 1) kinds
