-- The lists of permissions that a module's statements name.
use Rattle.std.specs.Prelude.{ℕ, List, [], ◌∷◌, map, drop}
use Rattle.cil_parse.specs.Lexicon.{AreNumbersOf}
use Rattle.cil_parse.specs.Rows.{of_rows}
use Rattle.cil_parse.specs.declared.permission_lists.PermissionLists.{PermissionLists}
use Rattle.cil_parse.specs.declared.row.NumberedWord.{NumberedWord}
use Rattle.cil_parse.specs.declared.row.Row.{Row}
use Rattle.cil_parse.specs.declared.row.StatementKind.{StatementKind}
use Rattle.cil_parse.specs.declared.row.StatementKind.TheVariants as kinds

-- the permissions among the words of a statement of a kind
abbrev pub permission_words : {W : Type 0} → StatementKind → List W → List W
permission_words kinds.Common words = drop 1 words
permission_words kinds.Class words = drop 1 words
permission_words kinds.ClassPermissionSet words = drop 2 words
permission_words (kinds.Rule kind) words = drop 3 words
permission_words (kinds.RuleToSelf kind) words = drop 2 words
permission_words _ words = []

-- for each statement the numbers of the texts of its permissions
abbrev pub permission_texts : List Row → List (List NumberedWord) → List (List ℕ)
permission_texts = of_rows (λ row words. map (λ w. w.text) (permission_words row.kind words))

-- each statement has the number of its list of permissions
abbrev pub AreListed : {A : Type 0} → PermissionLists A → List Row → List (List NumberedWord) → Type 0
AreListed p rows words = AreNumbersOf p.lists.0 p.numbers.items (permission_texts rows words)
