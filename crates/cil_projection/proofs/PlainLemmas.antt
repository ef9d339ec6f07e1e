-- The pieces that are made of names: what holds of the words among trees holds of the names in them.
use Rattle.std.specs.Prelude.{ℕ, Bool, true, false, cond, ◌&&◌, List, [], ◌∷◌, ◌++◌, Option, Some, None, codes, bytes_eq, IsTrue, refl}
use Rattle.std.specs.List.{list_all}
use Rattle.std.specs.Option.{option_map_or}
use Rattle.std.proofs.Common.{◌∙◌}
use Rattle.std.proofs.lemmas.Bool.{and_parts}
use Rattle.std.proofs.lemmas.List.Folds.{list_all-append}
use Rattle.cil_specs.specs.Trees.{Trees, none, a_word, a_string, a_list}
use Rattle.cil_specs.specs.Shape.{is_among}
use Rattle.cil_specs.specs.Expr as exprs
use Rattle.cil_specs.proofs.Runs.{both_true}
use Rattle.cil_projection.specs.declared.table.Table.{Table}
use Rattle.cil_projection.specs.declared.table.Table.TheVariants.{Types, Booleans, Categories, Sensitivities}
use Rattle.cil_projection.specs.declared.operand.Operand.{Operand}
use Rattle.cil_projection.specs.declared.operand.Operand.TheVariants as operands
use Rattle.cil_projection.specs.declared.part.Part.{Part}
use Rattle.cil_projection.specs.declared.part.Part.TheVariants as parts
use Rattle.cil_projection.specs.declared.part.Part.TheVariants.{Declared, Name, Target, Expression, Names, Truth, Ignored, Classes, ClassPermissions, Context, PerhapsContext, Range, Level, Address, ExtendedPermission, Constraint}
use Rattle.cil_projection.specs.Pieces.{Piece, copied, blanked, taken, declared, needed, a_class, a_permission_set, opened, permission, closed}
use Rattle.cil_projection.specs.Forms.{class_permissions, classes_in, compared, compared_list, comparison, comparisons, connectives, constraint, constraints, expression_names, expression_needs, fit, has_no_string, inner_parts, joined, level, level_compared, level_variables, listed, listed_names, name_or_operator, names_in, of_list, of_operand, of_string, of_word, operands_in, operation, operators, or_else, permissions_in, truth_word, unless_variable, variable}
use Rattle.cil_projection.specs.Conditions.{Settings}
use Rattle.cil_projection.specs.Statements.{branch_needs, branches, branches_need, condition_names, is_taken, rule_needs, rules, rules_need, type_rule_needs, type_rules}
use Rattle.cil_projection.proofs.WordLemmas.{words_are}

-- what holds either way
pub either_way : {X : Type 0} (P : X → Bool) (b : Bool) (x y : X) → IsTrue (P x) → IsTrue (P y) → IsTrue (P (cond b x y))
either_way P true x y h k = h
either_way P false x y h k = k

module _ (good : List ℕ → Bool) where
  -- whether a piece is no bytes of the text, and the name in it is such
  abbrev pub is_plain : Piece → Bool
  is_plain (copied from to) = false
  is_plain (blanked from to) = false
  is_plain (taken keyword) = true
  is_plain (declared table name) = good name
  is_plain (needed table name) = good name
  is_plain (a_class name) = good name
  is_plain (a_permission_set name) = good name
  is_plain (opened name) = good name
  is_plain (permission name) = good name
  is_plain closed = true

  abbrev pub are_plain : List Piece → Bool
  are_plain = list_all is_plain

  -- where there are pieces
  abbrev pub are_found_plain : Option (List Piece) → Bool
  are_found_plain None = true
  are_found_plain (Some pieces) = are_plain pieces

  plain_one : (piece : Piece) → IsTrue (is_plain piece) → IsTrue (are_plain (piece ∷ []))
  plain_one piece h = both_true (is_plain piece) true h refl

  pub plain_append : (xs ys : List Piece) → IsTrue (are_plain xs) → IsTrue (are_plain ys) → IsTrue (are_plain (xs ++ ys))
  plain_append xs ys h k = list_all-append is_plain xs ys ∙ both_true (are_plain xs) (are_plain ys) h k

  plain_joined : (x y : Option (List Piece)) → IsTrue (are_found_plain x) → IsTrue (are_found_plain y) → IsTrue (are_found_plain (joined x y))
  plain_joined None y h k = refl
  plain_joined (Some front) None h k = refl
  plain_joined (Some front) (Some after) h k = plain_append front after h k

  plain_or_else : (x y : Option (List Piece)) → IsTrue (are_found_plain x) → IsTrue (are_found_plain y) → IsTrue (are_found_plain (or_else x y))
  plain_or_else None y h k = k
  plain_or_else (Some found) y h k = h

  -- the names in trees whose words have none

  pub plain_name : (table : Table) (word : List ℕ) → IsTrue (good word) → IsTrue (are_plain (name_or_operator table word))
  plain_name table word h = either_way are_plain (is_among operators word) [] (needed table word ∷ []) refl (plain_one (needed table word) h)

  plain_operand : (operand : Operand) (word : List ℕ) → IsTrue (good word) → IsTrue (are_plain (of_operand operand word))
  plain_operand (operands.Name table) word h = plain_name table word h
  plain_operand operands.Permission word h =
      either_way are_plain (is_among exprs.operators word) [] (permission word ∷ []) refl (plain_one (permission word) h)

  plain_operands : (operand : Operand) (trees : Trees) → IsTrue (words_are good trees) → IsTrue (are_plain (operands_in operand trees))
  plain_operands operand none h = refl
  plain_operands operand (a_word at word rest) h =
      let p = and_parts (good word) (words_are good rest) h in
      plain_append (of_operand operand word) (operands_in operand rest) (plain_operand operand word p.0) (plain_operands operand rest p.1)
  plain_operands operand (a_string at text rest) h = plain_operands operand rest h
  plain_operands operand (a_list at end items rest) h =
      let p = and_parts (words_are good items) (words_are good rest) h in
      plain_append (operands_in operand items) (operands_in operand rest) (plain_operands operand items p.0) (plain_operands operand rest p.1)

  pub plain_names : (table : Table) (trees : Trees) → IsTrue (words_are good trees) → IsTrue (are_plain (names_in table trees))
  plain_names table trees h = plain_operands (operands.Name table) trees h

  plain_expression : (operand : Operand) (trees : Trees) → IsTrue (words_are good trees) → IsTrue (are_found_plain (expression_needs operand trees))
  plain_expression operand trees h = either_way are_found_plain (has_no_string trees) (Some (operands_in operand trees)) None (plain_operands operand trees h) refl

  plain_list : (table : Table) (trees : Trees) → IsTrue (words_are good trees) → IsTrue (are_found_plain (listed_names table trees))
  plain_list table none h = refl
  plain_list table (a_word at name rest) h =
      let p = and_parts (good name) (words_are good rest) h in
      plain_joined (Some (needed table name ∷ [])) (listed_names table rest) (plain_one (needed table name) p.0) (plain_list table rest p.1)
  plain_list table (a_string at text rest) h = refl
  plain_list table (a_list at end items rest) h = refl

  plain_classes : (trees : Trees) → IsTrue (words_are good trees) → IsTrue (are_found_plain (classes_in trees))
  plain_classes none h = refl
  plain_classes (a_word at name rest) h =
      let p = and_parts (good name) (words_are good rest) h in
      plain_joined (Some (a_class name ∷ [])) (classes_in rest) (plain_one (a_class name) p.0) (plain_classes rest p.1)
  plain_classes (a_string at text rest) h = refl
  plain_classes (a_list at end items rest) h = refl

  plain_listed : (name : List ℕ) (items : Trees) → IsTrue (good name) → IsTrue (words_are good items) → IsTrue (are_found_plain (listed name items))
  plain_listed name items h k =
      plain_joined (joined (Some (opened name ∷ [])) (permissions_in items)) (Some (closed ∷ []))
      (plain_joined (Some (opened name ∷ [])) (permissions_in items) (plain_one (opened name) h) (plain_expression operands.Permission items k)) refl

  plain_class_permissions : (trees : Trees) → IsTrue (words_are good trees) → IsTrue (are_found_plain (class_permissions trees))
  plain_class_permissions (a_word at name (a_list from end items none)) h =
      let p = and_parts (good name) (words_are good items && true) h in
      plain_listed name items p.0 (and_parts (words_are good items) true p.1).0
  plain_class_permissions trees h = refl

  plain_level : (trees : Trees) → IsTrue (words_are good trees) → IsTrue (are_found_plain (level trees))
  plain_level (a_word at name rest) h =
      let p = and_parts (good name) (words_are good rest) h in
      plain_joined (Some (needed Sensitivities name ∷ [])) (expression_names Categories rest) (plain_one (needed Sensitivities name) p.0) (plain_expression (operands.Name Categories) rest p.1)
  plain_level trees h = refl

  plain_unless : (found : Option Table) (piece : Piece) → IsTrue (is_plain piece) → IsTrue (are_plain (unless_variable found piece))
  plain_unless None piece h = plain_one piece h
  plain_unless (Some table) piece h = refl

  plain_compared : (found : Option Table) (word : List ℕ) → IsTrue (good word) → IsTrue (are_found_plain (compared found word))
  plain_compared None word h = refl
  plain_compared (Some table) word h = plain_unless (variable word) (needed table word) h

  plain_compared_list : (found : Option Table) (items : Trees) → IsTrue (words_are good items) → IsTrue (are_found_plain (compared_list found items))
  plain_compared_list None items h = refl
  plain_compared_list (Some table) items h = plain_list table items h

  plain_comparison : (trees : Trees) → IsTrue (words_are good trees) → IsTrue (are_found_plain (comparison trees))
  plain_comparison (a_word at left (a_word place right none)) h =
      let p = and_parts (good left) (good right && true) h in
      either_way are_found_plain (is_among level_variables left) (level_compared right) (compared (variable left) right)
      (either_way are_found_plain (is_among level_variables right) (Some []) None refl refl)
      (plain_compared (variable left) right (and_parts (good right) true p.1).0)
  plain_comparison (a_word at left (a_list place end items none)) h =
      let p = and_parts (good left) (words_are good items && true) h in
      plain_compared_list (variable left) items (and_parts (words_are good items) true p.1).0
  plain_comparison trees h = refl

  plain_operation : (operator : List ℕ) (operands : Trees) (inner : Option (List Piece)) → IsTrue (words_are good operands) → IsTrue (are_found_plain inner)
      → IsTrue (are_found_plain (operation operator operands inner))
  plain_operation operator operands inner h k =
      either_way are_found_plain (is_among connectives operator) inner (cond (is_among comparisons operator) (comparison operands) None) k
      (either_way are_found_plain (is_among comparisons operator) (comparison operands) None (plain_comparison operands h) refl)

  plain_constraints : (trees : Trees) → IsTrue (words_are good trees) → IsTrue (are_found_plain (constraints trees))
  plain_constraints (a_list at end (a_word place operator operands) rest) h =
      let p = and_parts (good operator && words_are good operands) (words_are good rest) h in
      let q = and_parts (good operator) (words_are good operands) p.0 in
      plain_joined (operation operator operands (constraints operands)) (constraints rest)
      (plain_operation operator operands (constraints operands) q.1 (plain_constraints operands q.1)) (plain_constraints rest p.1)
  plain_constraints trees h = refl

  plain_constraint : (trees : Trees) → IsTrue (words_are good trees) → IsTrue (are_found_plain (constraint trees))
  plain_constraint (a_word place operator operands) h =
      let p = and_parts (good operator) (words_are good operands) h in
      plain_operation operator operands (constraints operands) p.1 (plain_constraints operands p.1)
  plain_constraint trees h = refl

  plain_truth : (found : Option Bool) → IsTrue (are_found_plain (option_map_or (λ b. Some []) found None))
  plain_truth None = refl
  plain_truth (Some value) = refl

  plain_of_word : (part : Part) (word : List ℕ) → IsTrue (good word) → IsTrue (are_found_plain (of_word part word))
  plain_of_word (Declared table) word h = plain_one (declared table word) h
  plain_of_word (Name table) word h = either_way are_found_plain (bytes_eq word (codes "self")) None (Some (needed table word ∷ [])) refl (plain_one (needed table word) h)
  plain_of_word Target word h = either_way are_plain (bytes_eq word (codes "self")) [] (needed Types word ∷ []) refl (plain_one (needed Types word) h)
  plain_of_word (Expression table) word h = plain_name table word h
  plain_of_word Truth word h = plain_truth (truth_word word)
  plain_of_word Ignored word h = refl
  plain_of_word ClassPermissions word h = plain_one (a_permission_set word) h
  plain_of_word Constraint word h = refl
  plain_of_word part word h = both_true (good word) true h refl

  plain_of_list : (part : Part) (items : Trees) (inner : Option (List Piece)) → IsTrue (words_are good items) → IsTrue (are_found_plain inner) → IsTrue (are_found_plain (of_list part items inner))
  plain_of_list (Expression table) items inner h k = plain_expression (operands.Name table) items h
  plain_of_list (Names table) items inner h k = plain_list table items h
  plain_of_list Classes items inner h k = plain_classes items h
  plain_of_list ClassPermissions items inner h k = plain_class_permissions items h
  plain_of_list Context items inner h k = k
  plain_of_list PerhapsContext none inner h k = refl
  plain_of_list PerhapsContext (a_word at word rest) inner h k = k
  plain_of_list PerhapsContext (a_string at text rest) inner h k = k
  plain_of_list PerhapsContext (a_list at end items rest) inner h k = k
  plain_of_list Range items inner h k = k
  plain_of_list ExtendedPermission items inner h k = k
  plain_of_list Level items inner h k = plain_level items h
  plain_of_list Constraint items inner h k = plain_constraint items h
  plain_of_list part items inner h k = refl

  plain_of_string : (part : Part) → IsTrue (are_found_plain (of_string part))
  plain_of_string Ignored = refl
  plain_of_string part = refl

  -- those of arguments that fit a form
  pub plain_fit : (parts : List Part) (trees : Trees) → IsTrue (words_are good trees) → IsTrue (are_found_plain (fit parts trees))
  plain_fit [] none h = refl
  plain_fit [] (a_word at word rest) h = refl
  plain_fit [] (a_string at text rest) h = refl
  plain_fit [] (a_list at end items rest) h = refl
  plain_fit (part ∷ more) none h = refl
  plain_fit (part ∷ more) (a_word at word rest) h =
      let p = and_parts (good word) (words_are good rest) h in
      plain_joined (of_word part word) (fit more rest) (plain_of_word part word p.0) (plain_fit more rest p.1)
  plain_fit (part ∷ more) (a_string at text rest) h = plain_joined (of_string part) (fit more rest) (plain_of_string part) (plain_fit more rest h)
  plain_fit (part ∷ more) (a_list at end items rest) h =
      let p = and_parts (words_are good items) (words_are good rest) h in
      plain_joined (of_list part items (fit (inner_parts part) items)) (fit more rest)
      (plain_of_list part items (fit (inner_parts part) items) p.0 (plain_fit (inner_parts part) items p.0)) (plain_fit more rest p.1)

  -- those that the rules of branches need

  plain_rule : (stays : Bool) (word : List ℕ) (arguments : Trees) → IsTrue (words_are good arguments) → IsTrue (are_found_plain (rule_needs stays word arguments))
  plain_rule stays word arguments h =
      let rule : List Part = Name Types ∷ Target ∷ ClassPermissions ∷ [] in
      let short : List Part = Name Types ∷ Target ∷ parts.Class ∷ Name Types ∷ [] in
      let long : List Part = Name Types ∷ Target ∷ parts.Class ∷ Ignored ∷ Name Types ∷ [] in
      let type_rule : Option (List Piece) = joined (Some (taken word ∷ [])) (type_rule_needs arguments) in
      either_way are_found_plain (is_among rules word) (cond stays (Some []) (fit rule arguments)) (cond (is_among type_rules word) type_rule None)
      (either_way are_found_plain stays (Some []) (fit rule arguments) refl (plain_fit rule arguments h))
      (either_way are_found_plain (is_among type_rules word) type_rule None
      (plain_joined (Some (taken word ∷ [])) (type_rule_needs arguments) refl
      (plain_or_else (fit short arguments) (fit long arguments) (plain_fit short arguments h) (plain_fit long arguments h)))
      refl)

  plain_rules : (stay : Bool) (trees : Trees) → IsTrue (words_are good trees) → IsTrue (are_found_plain (rules_need stay trees))
  plain_rules stay (a_list at end (a_word place word arguments) rest) h =
      let p = and_parts (good word && words_are good arguments) (words_are good rest) h in
      plain_joined (rule_needs stay word arguments) (rules_need stay rest)
      (plain_rule stay word arguments (and_parts (good word) (words_are good arguments) p.0).1) (plain_rules stay rest p.1)
  plain_rules stay trees h = refl

  pub plain_branches : (settings : Settings) (holds : Bool) (trees : Trees) → IsTrue (words_are good trees) → IsTrue (are_found_plain (branches_need settings holds trees))
  plain_branches settings holds (a_list at end (a_word place branch inner) rest) h =
      let p = and_parts (good branch && words_are good inner) (words_are good rest) h in
      let q = and_parts (good branch) (words_are good inner) p.0 in
      plain_joined (branch_needs settings holds branch inner) (branches_need settings holds rest)
      (either_way are_found_plain (is_among branches branch) (rules_need (is_taken settings holds branch) inner) None (plain_rules (is_taken settings holds branch) inner q.1) refl)
      (plain_branches settings holds rest p.1)
  plain_branches settings holds trees h = refl

  pub plain_condition : (trees : Trees) → IsTrue (words_are good trees) → IsTrue (are_plain (condition_names Booleans trees))
  plain_condition none h = refl
  plain_condition (a_word at word rest) h = plain_name Booleans word (and_parts (good word) (words_are good rest) h).0
  plain_condition (a_string at text rest) h = refl
  plain_condition (a_list at end items rest) h = plain_names Booleans items (and_parts (words_are good items) (words_are good rest) h).0
