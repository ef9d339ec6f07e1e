-- The branches of conditional statements.
use Rattle.std.specs.Prelude.{◌≡◌, ℕ, ◌+◌, ◌≤◌, Bool, true, false, cond, List, [], ◌∷◌, ◌++◌, Option, Some, None, bytes_eq, codes, refl}
use Rattle.std.specs.Option.{option_map_or}
use Rattle.std.proofs.Common.{◌∙◌, ap, sym, arith, true≢false}
use Rattle.std.proofs.lemmas.Option.{none-some, same_Some}
use Rattle.cil_specs.specs.Expr.{IsListThen}
use Rattle.cil_specs.specs.Trees.{Trees, none, a_word, a_string, a_list, are_lists}
use Rattle.cil_reader.specs.declared.tree.Tree.{Tree}
use Rattle.cil_reader.specs.declared.tree.Tree.TheVariants as trees
use Rattle.cil_reader.specs.Common.{is_nothing, tree_then}
use Rattle.cil_reader.proofs.Nodes.{tree_size}
use Rattle.cil_projection.specs.declared.table.Table.TheVariants.{Tunables}
use Rattle.cil_projection.specs.Pieces.{Piece, blanked, copied, taken}
use Rattle.cil_projection.specs.Conditions.{Settings, are_branches, branch_for}
use Rattle.cil_projection.specs.Forms.{joined}
use Rattle.cil_projection.specs.Statements.{branch_projected, branches_need, chosen, condition_names, condition_value, kept_branches, projected, tunable_projected, value_for}

-- trees without a list in front are lists only where there are none
pub no_lists : (trees : Trees) → ((items rest : Trees) → IsListThen trees items rest → ⊥) → is_nothing trees ≡ are_lists trees
no_lists none absent = refl
no_lists (a_word at text rest) absent = refl
no_lists (a_string at text rest) absent = refl
no_lists (a_list at end items rest) absent = absurd (absent items rest (at, end, refl))

-- trees without a list in front that are some stand behind no branch
pub no_other_branch : (all items rest : Trees) → IsListThen all items rest → is_nothing rest ≡ false → ((items more : Trees) → IsListThen rest items more → ⊥) → false ≡ are_branches all
no_other_branch all items rest is some absent = behind rest some absent ∙ ap are_branches (sym is.2)
  where
    behind : (rest : Trees) → is_nothing rest ≡ false → ((items more : Trees) → IsListThen rest items more → ⊥) → false ≡ are_branches (a_list is.0 is.1 items rest)
    behind none some absent = absurd (true≢false some)
    behind (a_word at text more) some absent = refl
    behind (a_string at text more) some absent = refl
    behind (a_list at end others more) some absent = absurd (absent others more (at, end, refl))

-- a conditional statement with branches
pub chosen_is : (settings : Settings) (from to : ℕ) (holds : Bool) (names : List Piece) (inner : Trees) → are_branches inner ≡ true
    → joined (Some (kept_branches settings holds from inner to ++ taken (codes "booleanif") ∷ names)) (branches_need settings holds inner) ≡ chosen settings from to (Some holds) names inner
chosen_is settings from to holds names inner branches =
    ap (λ b. cond b (joined (Some (kept_branches settings holds from inner to ++ taken (codes "booleanif") ∷ names)) (branches_need settings holds inner)) None) (sym branches)

-- the branch for a value is fewer trees than all
pub branch_size : (holds : Bool) (inner all : Trees) → Some inner ≡ branch_for holds all → tree_size inner + 1 ≤ tree_size all
branch_size holds inner none is = absurd (none-some inner (sym is))
branch_size holds inner (a_word at text rest) is = omega (arith, branch_size holds inner rest is)
branch_size holds inner (a_string at text rest) is = omega (arith, branch_size holds inner rest is)
branch_size holds inner (a_list at end none rest) is = omega (arith, branch_size holds inner rest is)
branch_size holds inner (a_list at end (a_string place text more) rest) is = omega (arith, branch_size holds inner rest is)
branch_size holds inner (a_list at end (a_list place last items more) rest) is = omega (arith, branch_size holds inner rest is)
branch_size holds inner (a_list at end (a_word place branch body) rest) is = by (bytes_eq branch (cond holds (codes "true") (codes "false"))) (branch_size holds inner rest) is
  where
    by : (b : Bool) → (Some inner ≡ branch_for holds rest → tree_size inner + 1 ≤ tree_size rest) → Some inner ≡ cond b (Some body) (branch_for holds rest)
        → tree_size inner + 1 ≤ tree_size body + 1 + tree_size rest + 1
    by true others is = omega (arith, ap tree_size (same_Some inner body is))
    by false others is = omega (arith, others is)

-- branches are projected as the one for the value is
pub branch_is : (settings : Settings) (holds : Bool) (from to : ℕ) (all : Trees)
    → option_map_or (λ inner. projected settings false from inner to) (branch_for holds all) (blanked from to ∷ []) ≡ branch_projected settings holds from to all
branch_is settings holds from to none = refl
branch_is settings holds from to (a_word at text rest) = branch_is settings holds from to rest
branch_is settings holds from to (a_string at text rest) = branch_is settings holds from to rest
branch_is settings holds from to (a_list at end none rest) = branch_is settings holds from to rest
branch_is settings holds from to (a_list at end (a_string place text more) rest) = branch_is settings holds from to rest
branch_is settings holds from to (a_list at end (a_list place last items more) rest) = branch_is settings holds from to rest
branch_is settings holds from to (a_list at end (a_word place branch body) rest) = by (bytes_eq branch (cond holds (codes "true") (codes "false"))) (branch_is settings holds from to rest)
  where
    by : (b : Bool) → option_map_or (λ inner. projected settings false from inner to) (branch_for holds rest) (blanked from to ∷ []) ≡ branch_projected settings holds from to rest
        → option_map_or (λ inner. projected settings false from inner to) (cond b (Some body) (branch_for holds rest)) (blanked from to ∷ [])
        ≡ cond b (projected settings false from body to) (branch_projected settings holds from to rest)
    by true others = refl
    by false others = others

-- a value of a condition with branches behind it
value_is : (f : Bool → List Piece) (value : Option Bool) (inner : Trees) (holds : Bool) (other : List Piece) → are_branches inner ≡ true → Some holds ≡ value
    → f holds ≡ option_map_or f (value_for value inner) other
value_is f value inner holds other branches is =
    ap (λ value. option_map_or f value other) is ∙ ap (λ b. option_map_or f (cond b value None) other) (sym branches)

-- a conditional statement of tunables whose condition has a value
pub tunable_is : (settings : Settings) (from to : ℕ) (tree : Tree) (inner : Trees) (holds : Bool) → are_branches inner ≡ true → Some holds ≡ condition_value settings (tree_then tree inner)
    → branch_projected settings holds from to inner ++ taken (codes "tunableif") ∷ condition_names Tunables (tree_then tree inner) ≡ tunable_projected settings from to (tree_then tree inner)
tunable_is settings from to (trees.Word w) inner holds branches is =
    value_is (λ holds. branch_projected settings holds from to inner ++ taken (codes "tunableif") ∷ condition_names Tunables (tree_then (trees.Word w) inner))
    (condition_value settings (tree_then (trees.Word w) inner)) inner holds (copied from to ∷ []) branches is
tunable_is settings from to (trees.String w) inner holds branches is = absurd (none-some holds (sym is))
tunable_is settings from to (trees.List at end items) inner holds branches is =
    value_is (λ holds. branch_projected settings holds from to inner ++ taken (codes "tunableif") ∷ condition_names Tunables (tree_then (trees.List at end items) inner))
    (condition_value settings (tree_then (trees.List at end items) inner)) inner holds (copied from to ∷ []) branches is
