-- How many trees there are.
use Rattle.std.specs.Prelude.{ℕ, ◌+◌, Bool, true, false}
use Rattle.cil_specs.specs.Trees.{Trees, none, a_word, a_string, a_list}

-- the trees one behind the other, those inside lists not counted
abbrev pub tree_count : Trees → ℕ
tree_count none = 0
tree_count (a_word at bytes rest) = tree_count rest + 1
tree_count (a_string at bytes rest) = tree_count rest + 1
tree_count (a_list at end items rest) = tree_count rest + 1

abbrev pub is_nothing : Trees → Bool
is_nothing none = true
is_nothing (a_word at bytes rest) = false
is_nothing (a_string at bytes rest) = false
is_nothing (a_list at end items rest) = false

-- whether it is one tree alone
abbrev pub is_one : Trees → Bool
is_one none = false
is_one (a_word at bytes rest) = is_nothing rest
is_one (a_string at bytes rest) = is_nothing rest
is_one (a_list at end items rest) = is_nothing rest
