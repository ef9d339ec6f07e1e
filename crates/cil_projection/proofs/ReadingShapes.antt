-- The trees of a projection are lists, as those of the text are.
use Rattle.std.specs.Prelude.{◌≡◌, ℕ, Bool, true, false, cond, List, [], ◌∷◌, Option, Some, None, codes, bytes_eq, refl}
use Rattle.std.specs.Option.{option_map_or}
use Rattle.std.proofs.Common.{sym}
use Rattle.std.proofs.lemmas.Bool.{true≢false}
use Rattle.cil_specs.specs.Trees.{Trees, none, a_word, a_string, a_list, are_lists}
use Rattle.cil_specs.specs.Shape.{is_among}
use Rattle.cil_projection.specs.declared.table.Table.TheVariants.{Tunables}
use Rattle.cil_projection.specs.Pieces.{Piece, copied}
use Rattle.cil_projection.specs.Forms.{name_or_operator, names_in}
use Rattle.cil_projection.specs.Conditions.{Settings, containers, list_value}
use Rattle.cil_projection.specs.Statements.{rules, is_taken, condition_value, behind_first, statement, value_for}
use Rattle.cil_projection.specs.Readings.{nowhere, followed_by, plain_list, plain_words, without_places, made_trees, rules_of, rules_taken, stays_of, or_unprojected, projected_trees, one_tree, body_trees, tunable_trees, branch_trees, inner_trees}

lists_followed : (s t : Trees) → are_lists s ≡ true → are_lists t ≡ true → are_lists (followed_by s t) ≡ true
lists_followed none t first second = second
lists_followed (a_word at bytes rest) t first second = absurd (true≢false (sym first))
lists_followed (a_string at bytes rest) t first second = absurd (true≢false (sym first))
lists_followed (a_list at end items rest) t first second = lists_followed rest t first second

made_lists : (pieces : List Piece) → are_lists (made_trees pieces) ≡ true
made_lists [] = refl
made_lists (copied from to ∷ pieces) = made_lists pieces
made_lists (_ ∷ pieces) = made_lists pieces

-- one of two trees
either_lists : (b : Bool) (s t : Trees) → are_lists s ≡ true → are_lists t ≡ true → are_lists (cond b s t) ≡ true
either_lists true s t first second = first
either_lists false s t first second = second

maybe_lists : (f : Bool → Trees) (found : Option Bool) (other : Trees) → ((b : Bool) → are_lists (f b) ≡ true) → are_lists other ≡ true → are_lists (option_map_or f found other) ≡ true
maybe_lists f None other some without = without
maybe_lists f (Some b) other some without = some b

rules_lists : (trees : Trees) → are_lists (rules_of trees) ≡ true
rules_lists none = refl
rules_lists (a_word at bytes rest) = rules_lists rest
rules_lists (a_string at bytes rest) = rules_lists rest
rules_lists (a_list at end none rest) = rules_lists rest
rules_lists (a_list at end (a_string p t r) rest) = rules_lists rest
rules_lists (a_list at end (a_list p e i r) rest) = rules_lists rest
rules_lists (a_list at end (a_word place bytes arguments) rest) =
    either_lists (is_among rules bytes) (plain_list (a_word nowhere bytes (without_places arguments)) (rules_of rest)) (rules_of rest) (rules_lists rest) (rules_lists rest)

module _ (settings : Settings) where
  taken_lists : (holds : Bool) (trees : Trees) → are_lists (rules_taken settings holds trees) ≡ true
  taken_lists holds none = refl
  taken_lists holds (a_word at bytes rest) = taken_lists holds rest
  taken_lists holds (a_string at bytes rest) = taken_lists holds rest
  taken_lists holds (a_list at end none rest) = taken_lists holds rest
  taken_lists holds (a_list at end (a_string p t r) rest) = taken_lists holds rest
  taken_lists holds (a_list at end (a_list p e i r) rest) = taken_lists holds rest
  taken_lists holds (a_list at end (a_word place branch inner) rest) =
      either_lists (is_taken settings holds branch) (followed_by (rules_of inner) (rules_taken settings holds rest)) (rules_taken settings holds rest)
      (lists_followed (rules_of inner) (rules_taken settings holds rest) (rules_lists inner) (taken_lists holds rest)) (taken_lists holds rest)

  stays_lists : (bytes : List ℕ) (arguments : Trees) → are_lists (stays_of settings bytes arguments) ≡ true
  stays_lists bytes arguments =
      either_lists (bytes_eq bytes (codes "booleanif")) (option_map_or (λ holds. rules_taken settings holds (behind_first arguments)) (condition_value settings arguments) none) none
      (maybe_lists (λ holds. rules_taken settings holds (behind_first arguments)) (condition_value settings arguments) none (λ holds. taken_lists holds (behind_first arguments)) refl) refl

  unprojected_lists : (items stay : Trees) (found : Option (List Piece)) → are_lists stay ≡ true → are_lists (or_unprojected items stay found) ≡ true
  unprojected_lists items stay None lists = refl
  unprojected_lists items stay (Some pieces) lists = lists_followed stay (made_trees pieces) lists (made_lists pieces)

  body_lists : (bytes : List ℕ) (arguments : Trees) → are_lists (body_trees settings bytes arguments) ≡ true
  body_lists bytes none = refl
  body_lists bytes (a_word place id body) = refl
  body_lists bytes (a_string p t r) = refl
  body_lists bytes (a_list p e i r) = refl

  mutual
    projected_lists : (trees : Trees) → are_lists (projected_trees settings false trees) ≡ true
    projected_lists none = refl
    projected_lists (a_word at bytes rest) = projected_lists rest
    projected_lists (a_string at bytes rest) = projected_lists rest
    projected_lists (a_list at end items rest) =
        lists_followed (one_tree settings at.offset end items) (projected_trees settings false rest) (one_lists items at.offset end) (projected_lists rest)

    one_lists : (items : Trees) (from to : ℕ) → are_lists (one_tree settings from to items) ≡ true
    one_lists none from to = refl
    one_lists (a_string p t r) from to = refl
    one_lists (a_list p e i r) from to = refl
    one_lists (a_word place bytes arguments) from to =
        either_lists (is_among containers bytes) (body_trees settings bytes arguments)
        (cond (bytes_eq bytes (codes "tunableif")) (tunable_trees settings bytes arguments)
        (or_unprojected (a_word place bytes arguments) (stays_of settings bytes arguments) (statement settings from to bytes arguments)))
        (body_lists bytes arguments)
        (either_lists (bytes_eq bytes (codes "tunableif")) (tunable_trees settings bytes arguments)
        (or_unprojected (a_word place bytes arguments) (stays_of settings bytes arguments) (statement settings from to bytes arguments)) (tunable_lists arguments bytes)
        (unprojected_lists (a_word place bytes arguments) (stays_of settings bytes arguments) (statement settings from to bytes arguments) (stays_lists bytes arguments)))

    tunable_lists : (arguments : Trees) (bytes : List ℕ) → are_lists (tunable_trees settings bytes arguments) ≡ true
    tunable_lists none bytes = refl
    tunable_lists (a_string p t r) bytes = refl
    tunable_lists (a_word at name branches) bytes =
        maybe_lists (λ holds. followed_by (branch_trees settings holds branches) (made_trees (name_or_operator Tunables name))) (value_for (settings.value name) branches)
        (plain_list (plain_words (bytes ∷ []) (without_places (a_word at name branches))) none)
        (λ holds. lists_followed (branch_trees settings holds branches) (made_trees (name_or_operator Tunables name)) (branch_lists branches holds) (made_lists (name_or_operator Tunables name))) refl
    tunable_lists (a_list at end items branches) bytes =
        maybe_lists (λ holds. followed_by (branch_trees settings holds branches) (made_trees (names_in Tunables items))) (value_for (list_value settings.value items) branches)
        (plain_list (plain_words (bytes ∷ []) (without_places (a_list at end items branches))) none)
        (λ holds. lists_followed (branch_trees settings holds branches) (made_trees (names_in Tunables items)) (branch_lists branches holds) (made_lists (names_in Tunables items))) refl

    branch_lists : (branches : Trees) (holds : Bool) → are_lists (branch_trees settings holds branches) ≡ true
    branch_lists none holds = refl
    branch_lists (a_word at bytes rest) holds = branch_lists rest holds
    branch_lists (a_string at bytes rest) holds = branch_lists rest holds
    branch_lists (a_list at end items rest) holds = inner_lists items holds (branch_trees settings holds rest) (branch_lists rest holds)

    inner_lists : (items : Trees) (holds : Bool) (others : Trees) → are_lists others ≡ true → are_lists (inner_trees settings holds items others) ≡ true
    inner_lists none holds others lists = lists
    inner_lists (a_string p t r) holds others lists = lists
    inner_lists (a_list p e i r) holds others lists = lists
    inner_lists (a_word place branch inner) holds others lists =
        either_lists (bytes_eq branch (cond holds (codes "true") (codes "false"))) (projected_trees settings false inner) others (projected_lists inner) lists

  pub projection_lists : (trees : Trees) → are_lists trees ≡ true → are_lists (projected_trees settings true trees) ≡ true
  projection_lists none lists = refl
  projection_lists (a_word at bytes rest) lists = absurd (true≢false (sym lists))
  projection_lists (a_string at bytes rest) lists = absurd (true≢false (sym lists))
  projection_lists (a_list at end items rest) lists =
      lists_followed (one_tree settings at.offset end items) (projected_trees settings true rest) (one_lists items at.offset end) (projection_lists rest lists)
