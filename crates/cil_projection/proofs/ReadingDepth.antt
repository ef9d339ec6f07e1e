-- A projection nests at most two lists deeper than its text.
use Rattle.std.specs.Prelude.{◌≤◌, ℕ, ◌+◌, max, Bool, true, false, cond, List, [], ◌∷◌, Option, Some, None, codes, bytes_eq}
use Rattle.std.specs.Option.{option_map_or}
use Rattle.std.proofs.Common.{arith}
use Rattle.cil_specs.specs.Trees.{Trees, none, a_word, a_string, a_list}
use Rattle.cil_specs.specs.Shape.{is_among}
use Rattle.cil_projection.specs.declared.table.Table.TheVariants.{Tunables}
use Rattle.cil_projection.specs.Pieces.{Piece, opened, permission}
use Rattle.cil_projection.specs.Forms.{name_or_operator, names_in}
use Rattle.cil_projection.specs.Conditions.{Settings, containers, list_value}
use Rattle.cil_projection.specs.Statements.{rules, is_taken, condition_value, behind_first, statement, value_for}
use Rattle.cil_projection.specs.Readings.{nowhere, depth, followed_by, plain_list, plain_words, without_places, permissions_of, made_trees, rules_of, rules_taken, stays_of, or_unprojected, projected_trees, one_tree, body_trees, tunable_trees, branch_trees, inner_trees}

followed_depth : (s t : Trees) (n : ℕ) → depth s ≤ n → depth t ≤ n → depth (followed_by s t) ≤ n
followed_depth none t n first second = second
followed_depth (a_word at bytes rest) t n first second = followed_depth rest t n first second
followed_depth (a_string at bytes rest) t n first second = followed_depth rest t n first second
followed_depth (a_list at end items rest) t n first second = omega (arith, first, followed_depth rest t n (omega (arith, first)) second)

either_depth : (b : Bool) (s t : Trees) (n : ℕ) → depth s ≤ n → depth t ≤ n → depth (cond b s t) ≤ n
either_depth true s t n first second = first
either_depth false s t n first second = second

maybe_depth : (f : Bool → Trees) (found : Option Bool) (other : Trees) (n : ℕ) → ((b : Bool) → depth (f b) ≤ n) → depth other ≤ n → depth (option_map_or f found other) ≤ n
maybe_depth f None other n some without = without
maybe_depth f (Some b) other n some without = some b

plain_depth : (trees : Trees) → depth (without_places trees) ≤ depth trees
plain_depth none = omega arith
plain_depth (a_word at bytes rest) = plain_depth rest
plain_depth (a_string at bytes rest) = plain_depth rest
plain_depth (a_list at end items rest) = omega (arith, plain_depth items, plain_depth rest)

permissions_depth : (pieces : List Piece) → depth (permissions_of pieces) ≤ 0
permissions_depth (permission name ∷ pieces) = permissions_depth pieces
permissions_depth _ = omega arith

made_depth : (pieces : List Piece) → depth (made_trees pieces) ≤ 3
made_depth [] = omega arith
made_depth (opened name ∷ pieces) = omega (arith, made_depth pieces, permissions_depth pieces)
made_depth (_ ∷ pieces) = omega (arith, made_depth pieces)

rules_depth : (trees : Trees) → depth (rules_of trees) ≤ depth trees
rules_depth none = omega arith
rules_depth (a_word at bytes rest) = rules_depth rest
rules_depth (a_string at bytes rest) = rules_depth rest
rules_depth (a_list at end (a_word place bytes arguments) rest) =
    either_depth (is_among rules bytes) (plain_list (a_word nowhere bytes (without_places arguments)) (rules_of rest)) (rules_of rest) (max (depth arguments + 1) (depth rest))
    (omega (arith, plain_depth arguments, rules_depth rest)) (omega (arith, rules_depth rest))
rules_depth (a_list at end _ rest) = omega (arith, rules_depth rest)

first_depth : (arguments : Trees) → depth (behind_first arguments) ≤ depth arguments
first_depth none = omega arith
first_depth (a_word at bytes rest) = omega arith
first_depth (a_string at bytes rest) = omega arith
first_depth (a_list at end items rest) = omega arith

module _ (settings : Settings) where
  taken_depth : (holds : Bool) (trees : Trees) → depth (rules_taken settings holds trees) ≤ depth trees
  taken_depth holds none = omega arith
  taken_depth holds (a_word at bytes rest) = taken_depth holds rest
  taken_depth holds (a_string at bytes rest) = taken_depth holds rest
  taken_depth holds (a_list at end (a_word place branch inner) rest) =
      let n : ℕ = max (depth inner + 1) (depth rest) in
      let without : depth (rules_taken settings holds rest) ≤ n = omega (arith, taken_depth holds rest) in
      either_depth (is_taken settings holds branch) (followed_by (rules_of inner) (rules_taken settings holds rest)) (rules_taken settings holds rest) n
      (followed_depth (rules_of inner) (rules_taken settings holds rest) n (omega (arith, rules_depth inner)) without) without
  taken_depth holds (a_list at end _ rest) = omega (arith, taken_depth holds rest)

  stays_depth : (bytes : List ℕ) (arguments : Trees) → depth (stays_of settings bytes arguments) ≤ depth arguments
  stays_depth bytes arguments =
      either_depth (bytes_eq bytes (codes "booleanif")) (option_map_or (λ holds. rules_taken settings holds (behind_first arguments)) (condition_value settings arguments) none) none (depth arguments)
      (maybe_depth (λ holds. rules_taken settings holds (behind_first arguments)) (condition_value settings arguments) none (depth arguments)
      (λ holds. omega (arith, taken_depth holds (behind_first arguments), first_depth arguments)) (omega arith)) (omega arith)

  unprojected_depth : (items stay : Trees) (found : Option (List Piece)) (n : ℕ) → depth items + 3 ≤ n → depth stay ≤ n → depth (or_unprojected items stay found) ≤ n
  unprojected_depth items stay None n few stays = omega (arith, plain_depth items, few)
  unprojected_depth items stay (Some pieces) n few stays = followed_depth stay (made_trees pieces) n stays (omega (arith, made_depth pieces, few))

  mutual
    pub projected_depth : (trees : Trees) (stays : Bool) → depth (projected_trees settings stays trees) ≤ depth trees + 2
    projected_depth none stays = omega arith
    projected_depth (a_word at bytes rest) true = projected_depth rest true
    projected_depth (a_word at bytes rest) false = projected_depth rest false
    projected_depth (a_string at bytes rest) true = projected_depth rest true
    projected_depth (a_string at bytes rest) false = projected_depth rest false
    projected_depth (a_list at end items rest) stays =
        followed_depth (one_tree settings at.offset end items) (projected_trees settings stays rest) (max (depth items + 1) (depth rest) + 2)
        (omega (arith, one_depth items at.offset end)) (omega (arith, projected_depth rest stays))

    one_depth : (items : Trees) (from to : ℕ) → depth (one_tree settings from to items) ≤ depth items + 3
    one_depth none from to = omega arith
    one_depth (a_string p t r) from to = omega (arith, plain_depth r)
    one_depth (a_list p e i r) from to = omega (arith, plain_depth i, plain_depth r)
    one_depth (a_word place bytes arguments) from to =
        let n : ℕ = depth arguments + 3 in
        either_depth (is_among containers bytes) (body_trees settings bytes arguments)
        (cond (bytes_eq bytes (codes "tunableif")) (tunable_trees settings bytes arguments)
        (or_unprojected (a_word place bytes arguments) (stays_of settings bytes arguments) (statement settings from to bytes arguments))) n
        (body_depth arguments bytes)
        (either_depth (bytes_eq bytes (codes "tunableif")) (tunable_trees settings bytes arguments)
        (or_unprojected (a_word place bytes arguments) (stays_of settings bytes arguments) (statement settings from to bytes arguments)) n (tunable_depth arguments bytes)
        (unprojected_depth (a_word place bytes arguments) (stays_of settings bytes arguments) (statement settings from to bytes arguments) n (omega arith) (omega (arith, stays_depth bytes arguments))))

    body_depth : (arguments : Trees) (bytes : List ℕ) → depth (body_trees settings bytes arguments) ≤ depth arguments + 3
    body_depth none bytes = omega arith
    body_depth (a_string p t r) bytes = omega (arith, plain_depth r)
    body_depth (a_list p e i r) bytes = omega (arith, plain_depth i, plain_depth r)
    body_depth (a_word second id body) bytes = omega (arith, projected_depth body true)

    tunable_depth : (arguments : Trees) (bytes : List ℕ) → depth (tunable_trees settings bytes arguments) ≤ depth arguments + 3
    tunable_depth none bytes = omega arith
    tunable_depth (a_string p t r) bytes = omega (arith, plain_depth r)
    tunable_depth (a_word at name branches) bytes =
        let n : ℕ = depth branches + 3 in
        maybe_depth (λ holds. followed_by (branch_trees settings holds branches) (made_trees (name_or_operator Tunables name))) (value_for (settings.value name) branches)
        (plain_list (plain_words (bytes ∷ []) (without_places (a_word at name branches))) none) n
        (λ holds. followed_depth (branch_trees settings holds branches) (made_trees (name_or_operator Tunables name)) n (omega (arith, branch_depth branches holds))
        (omega (arith, made_depth (name_or_operator Tunables name)))) (omega (arith, plain_depth branches))
    tunable_depth (a_list at end items branches) bytes =
        let n : ℕ = max (depth items + 1) (depth branches) + 3 in
        maybe_depth (λ holds. followed_by (branch_trees settings holds branches) (made_trees (names_in Tunables items))) (value_for (list_value settings.value items) branches)
        (plain_list (plain_words (bytes ∷ []) (without_places (a_list at end items branches))) none) n
        (λ holds. followed_depth (branch_trees settings holds branches) (made_trees (names_in Tunables items)) n (omega (arith, branch_depth branches holds))
        (omega (arith, made_depth (names_in Tunables items)))) (omega (arith, plain_depth items, plain_depth branches))

    branch_depth : (branches : Trees) (holds : Bool) → depth (branch_trees settings holds branches) ≤ depth branches + 2
    branch_depth none holds = omega arith
    branch_depth (a_word at bytes rest) holds = branch_depth rest holds
    branch_depth (a_string at bytes rest) holds = branch_depth rest holds
    branch_depth (a_list at end items rest) holds =
        inner_depth items holds (branch_trees settings holds rest) (max (depth items + 1) (depth rest) + 2) (omega arith) (omega (arith, branch_depth rest holds))

    inner_depth : (items : Trees) (holds : Bool) (others : Trees) (n : ℕ) → depth items + 2 ≤ n → depth others ≤ n → depth (inner_trees settings holds items others) ≤ n
    inner_depth none holds others n few other = other
    inner_depth (a_string p t r) holds others n few other = other
    inner_depth (a_list p e i r) holds others n few other = other
    inner_depth (a_word place branch inner) holds others n few other =
        either_depth (bytes_eq branch (cond holds (codes "true") (codes "false"))) (projected_trees settings false inner) others n (omega (arith, projected_depth inner false, few)) other
