-- The pieces of the names that a statement declares and needs: those of whole statements, with good names.
use Rattle.std.specs.Prelude.{ℕ, ◌++◌, Bool, true, false, cond, List, [], ◌∷◌, Option, Some, None, codes, bytes_eq}
use Rattle.std.specs.Option.{option_map_or}
use Rattle.cil_specs.specs.Trees.{Trees, none, a_word, a_string, a_list}
use Rattle.cil_specs.specs.Shape.{is_among}
use Rattle.cil_specs.specs.Expr as exprs
use Rattle.cil_projection.specs.declared.table.Table.{Table}
use Rattle.cil_projection.specs.declared.table.Table.TheVariants.{Types, Booleans, Categories, Sensitivities}
use Rattle.cil_projection.specs.declared.operand.Operand.{Operand}
use Rattle.cil_projection.specs.declared.operand.Operand.TheVariants as operands
use Rattle.cil_projection.specs.declared.part.Part.{Part}
use Rattle.cil_projection.specs.declared.part.Part.TheVariants as parts
use Rattle.cil_projection.specs.declared.part.Part.TheVariants.{Declared, Name, Target, Expression, Names, Truth, Ignored, Classes, ClassPermissions, Context, PerhapsContext, Range, Level, Address, ExtendedPermission, Constraint}
use Rattle.cil_projection.specs.Pieces.{Piece, copied, blanked, taken, declared, needed, a_class, a_permission_set, opened, permission, closed}
use Rattle.cil_projection.specs.Forms.{joined, or_else, operators, name_or_operator, permission_or_operator, of_operand, operands_in, names_in, has_no_string, expression_names, listed_names, truth_word, classes_in, permissions_in, class_permissions, level, connectives, comparisons, level_variables, variable, unless_variable, compared, compared_list, level_compared, comparison, operation, constraints, constraint, of_word, inner_parts, of_list, of_string, fit}
use Rattle.cil_projection.specs.Conditions.{Settings}
use Rattle.cil_projection.specs.Statements.{rules, type_rules, branches, is_taken, type_rule_needs, rule_needs, rules_need, branch_needs, branches_need, condition_names}

-- The pieces are those of whole statements one after the other, and their names good. Whether a list of permissions is open is given.
abbrev pub AreMade : (List ℕ → Type 0) → Bool → List Piece → Type 0
AreMade Good false [] = Unit {0}
AreMade Good true [] = ⊥
AreMade Good false (taken keyword ∷ pieces) = AreMade Good false pieces
AreMade Good false (declared table name ∷ pieces) = Good name × AreMade Good false pieces
AreMade Good false (needed table name ∷ pieces) = Good name × AreMade Good false pieces
AreMade Good false (a_class name ∷ pieces) = Good name × AreMade Good false pieces
AreMade Good false (a_permission_set name ∷ pieces) = Good name × AreMade Good false pieces
AreMade Good false (opened name ∷ pieces) = Good name × AreMade Good true pieces
AreMade Good true (permission name ∷ pieces) = Good name × AreMade Good true pieces
AreMade Good true (closed ∷ pieces) = AreMade Good false pieces
AreMade Good inside pieces = ⊥

-- the words in trees are good
abbrev pub AreGood : (List ℕ → Type 0) → Trees → Type 0
AreGood Good none = Unit {0}
AreGood Good (a_word at word rest) = Good word × AreGood Good rest
AreGood Good (a_string at text rest) = AreGood Good rest
AreGood Good (a_list at end items rest) = AreGood Good items × AreGood Good rest

-- pieces that are there are so
abbrev pub MaybeMade : (List ℕ → Type 0) → Option (List Piece) → Type 0
MaybeMade Good None = Unit {0}
MaybeMade Good (Some pieces) = AreMade Good false pieces

-- the pieces are permissions, and their names good
abbrev pub ArePermissions : (List ℕ → Type 0) → List Piece → Type 0
ArePermissions Good [] = Unit {0}
ArePermissions Good (permission name ∷ pieces) = Good name × ArePermissions Good pieces
ArePermissions Good pieces = ⊥

-- permissions that are there, with the end behind them
abbrev pub MaybeInside : (List ℕ → Type 0) → Option (List Piece) → Type 0
MaybeInside Good None = Unit {0}
MaybeInside Good (Some pieces) = AreMade Good true (pieces ++ closed ∷ [])

module _ (Good : List ℕ → Type 0) where
  pub made_append : (inside : Bool) (xs ys : List Piece) → AreMade Good inside xs → AreMade Good false ys → AreMade Good inside (xs ++ ys)
  made_append false [] ys made more = more
  made_append true [] ys made more = absurd made
  made_append false (copied from to ∷ xs) ys made more = absurd made
  made_append false (blanked from to ∷ xs) ys made more = absurd made
  made_append false (taken keyword ∷ xs) ys made more = made_append false xs ys made more
  made_append false (declared table name ∷ xs) ys made more = (made.0, made_append false xs ys made.1 more)
  made_append false (needed table name ∷ xs) ys made more = (made.0, made_append false xs ys made.1 more)
  made_append false (a_class name ∷ xs) ys made more = (made.0, made_append false xs ys made.1 more)
  made_append false (a_permission_set name ∷ xs) ys made more = (made.0, made_append false xs ys made.1 more)
  made_append false (opened name ∷ xs) ys made more = (made.0, made_append true xs ys made.1 more)
  made_append false (permission name ∷ xs) ys made more = absurd made
  made_append false (closed ∷ xs) ys made more = absurd made
  made_append true (copied from to ∷ xs) ys made more = absurd made
  made_append true (blanked from to ∷ xs) ys made more = absurd made
  made_append true (taken keyword ∷ xs) ys made more = absurd made
  made_append true (declared table name ∷ xs) ys made more = absurd made
  made_append true (needed table name ∷ xs) ys made more = absurd made
  made_append true (a_class name ∷ xs) ys made more = absurd made
  made_append true (a_permission_set name ∷ xs) ys made more = absurd made
  made_append true (opened name ∷ xs) ys made more = absurd made
  made_append true (permission name ∷ xs) ys made more = (made.0, made_append true xs ys made.1 more)
  made_append true (closed ∷ xs) ys made more = made_append false xs ys made more

  pub joined_made : (x y : Option (List Piece)) → MaybeMade Good x → MaybeMade Good y → MaybeMade Good (joined x y)
  joined_made None y made more = tt
  joined_made (Some xs) None made more = tt
  joined_made (Some xs) (Some ys) made more = made_append false xs ys made more

  pub either_made : (b : Bool) (x y : Option (List Piece)) → MaybeMade Good x → MaybeMade Good y → MaybeMade Good (cond b x y)
  either_made true x y made other = made
  either_made false x y made other = other

  pub first_made : (x y : Option (List Piece)) → MaybeMade Good x → MaybeMade Good y → MaybeMade Good (or_else x y)
  first_made None y made other = other
  first_made (Some xs) y made other = made

  pub name_made : (table : Table) (word : List ℕ) → Good word → AreMade Good false (name_or_operator table word)
  name_made table word good = by (is_among operators word)
    where
      by : (b : Bool) → AreMade Good false (cond b [] (needed table word ∷ []))
      by true = tt
      by false = (good, tt)

  -- what holds of no pieces, of some behind others and of those of each good word holds of the operands in trees
  operands_made : (P : List Piece → Type 0) (operand : Operand) → P [] → ((xs ys : List Piece) → P xs → P ys → P (xs ++ ys))
      → ((word : List ℕ) → Good word → P (of_operand operand word)) → (trees : Trees) → AreGood Good trees → P (operands_in operand trees)
  operands_made P operand empty behind one none good = empty
  operands_made P operand empty behind one (a_word at word rest) good =
      behind (of_operand operand word) (operands_in operand rest) (one word good.0) (operands_made P operand empty behind one rest good.1)
  operands_made P operand empty behind one (a_string at text rest) good = operands_made P operand empty behind one rest good
  operands_made P operand empty behind one (a_list at end items rest) good =
      behind (operands_in operand items) (operands_in operand rest) (operands_made P operand empty behind one items good.0) (operands_made P operand empty behind one rest good.1)

  pub names_made : (table : Table) (trees : Trees) → AreGood Good trees → AreMade Good false (names_in table trees)
  names_made table trees good = operands_made (AreMade Good false) (operands.Name table) tt (made_append false) (name_made table) trees good

  expression_made : (table : Table) (trees : Trees) → AreGood Good trees → MaybeMade Good (expression_names table trees)
  expression_made table trees good = either_made (has_no_string trees) (Some (names_in table trees)) None (names_made table trees good) tt

  listed_names_made : (table : Table) (trees : Trees) → AreGood Good trees → MaybeMade Good (listed_names table trees)
  listed_names_made table none good = tt
  listed_names_made table (a_word at name rest) good =
      joined_made (Some (needed table name ∷ [])) (listed_names table rest) (good.0, tt) (listed_names_made table rest good.1)
  listed_names_made table (a_string at text rest) good = tt
  listed_names_made table (a_list at end items rest) good = tt

  classes_made : (trees : Trees) → AreGood Good trees → MaybeMade Good (classes_in trees)
  classes_made none good = tt
  classes_made (a_word at name rest) good = joined_made (Some (a_class name ∷ [])) (classes_in rest) (good.0, tt) (classes_made rest good.1)
  classes_made (a_string at text rest) good = tt
  classes_made (a_list at end items rest) good = tt

  permissions_append : (xs ys : List Piece) → ArePermissions Good xs → ArePermissions Good ys → ArePermissions Good (xs ++ ys)
  permissions_append [] ys made more = more
  permissions_append (permission name ∷ xs) ys made more = (made.0, permissions_append xs ys made.1 more)
  permissions_append (_ ∷ xs) ys made more = absurd made

  permissions_inside : (xs : List Piece) → ArePermissions Good xs → AreMade Good true (xs ++ closed ∷ [])
  permissions_inside [] made = tt
  permissions_inside (permission name ∷ xs) made = (made.0, permissions_inside xs made.1)
  permissions_inside (_ ∷ xs) made = absurd made

  permission_made : (word : List ℕ) → Good word → ArePermissions Good (permission_or_operator word)
  permission_made word good = by (is_among exprs.operators word)
    where
      by : (b : Bool) → ArePermissions Good (cond b [] (permission word ∷ []))
      by true = tt
      by false = (good, tt)

  permissions_made : (trees : Trees) → AreGood Good trees → MaybeInside Good (permissions_in trees)
  permissions_made trees good = by (has_no_string trees)
    where
      by : (b : Bool) → MaybeInside Good (cond b (Some (operands_in operands.Permission trees)) None)
      by true = permissions_inside (operands_in operands.Permission trees) (operands_made (ArePermissions Good) operands.Permission tt permissions_append permission_made trees good)
      by false = tt

  listed_made : (name : List ℕ) (x : Option (List Piece)) → Good name → MaybeInside Good x
      → MaybeMade Good (joined (joined (Some (opened name ∷ [])) x) (Some (closed ∷ [])))
  listed_made name None good made = tt
  listed_made name (Some xs) good made = (good, made)

  class_made : (trees : Trees) → AreGood Good trees → MaybeMade Good (class_permissions trees)
  class_made none good = tt
  class_made (a_word at name none) good = tt
  class_made (a_word at name (a_word place word rest)) good = tt
  class_made (a_word at name (a_string place text rest)) good = tt
  class_made (a_word at name (a_list from end items none)) good = listed_made name (permissions_in items) good.0 (permissions_made items good.1.0)
  class_made (a_word at name (a_list from end items (a_word p w r))) good = tt
  class_made (a_word at name (a_list from end items (a_string p w r))) good = tt
  class_made (a_word at name (a_list from end items (a_list p e i r))) good = tt
  class_made (a_string at text rest) good = tt
  class_made (a_list at end items rest) good = tt

  level_made : (trees : Trees) → AreGood Good trees → MaybeMade Good (level trees)
  level_made none good = tt
  level_made (a_word at name rest) good =
      joined_made (Some (needed Sensitivities name ∷ [])) (expression_names Categories rest) (good.0, tt) (expression_made Categories rest good.1)
  level_made (a_string at text rest) good = tt
  level_made (a_list at end items rest) good = tt

  compared_made : (table : Option Table) (word : List ℕ) → Good word → MaybeMade Good (compared table word)
  compared_made None word good = tt
  compared_made (Some table) word good = by (variable word)
    where
      by : (other : Option Table) → AreMade Good false (unless_variable other (needed table word))
      by None = (good, tt)
      by (Some other) = tt

  compared_list_made : (table : Option Table) (items : Trees) → AreGood Good items → MaybeMade Good (compared_list table items)
  compared_list_made None items good = tt
  compared_list_made (Some table) items good = listed_names_made table items good

  comparison_made : (trees : Trees) → AreGood Good trees → MaybeMade Good (comparison trees)
  comparison_made none good = tt
  comparison_made (a_word at left none) good = tt
  comparison_made (a_word at left (a_word place right none)) good =
      either_made (is_among level_variables left) (level_compared right) (compared (variable left) right)
      (either_made (is_among level_variables right) (Some []) None tt tt) (compared_made (variable left) right good.1.0)
  comparison_made (a_word at left (a_word place right (a_word p w r))) good = tt
  comparison_made (a_word at left (a_word place right (a_string p w r))) good = tt
  comparison_made (a_word at left (a_word place right (a_list p e i r))) good = tt
  comparison_made (a_word at left (a_string place text rest)) good = tt
  comparison_made (a_word at left (a_list place end items none)) good = compared_list_made (variable left) items good.1.0
  comparison_made (a_word at left (a_list place end items (a_word p w r))) good = tt
  comparison_made (a_word at left (a_list place end items (a_string p w r))) good = tt
  comparison_made (a_word at left (a_list place end items (a_list p e i r))) good = tt
  comparison_made (a_string at text rest) good = tt
  comparison_made (a_list at end items rest) good = tt

  operation_made : (operator : List ℕ) (operands : Trees) (inner : Option (List Piece)) → AreGood Good operands → MaybeMade Good inner
      → MaybeMade Good (operation operator operands inner)
  operation_made operator operands inner good made =
      either_made (is_among connectives operator) inner (cond (is_among comparisons operator) (comparison operands) None) made
      (either_made (is_among comparisons operator) (comparison operands) None (comparison_made operands good) tt)

  constraints_made : (trees : Trees) → AreGood Good trees → MaybeMade Good (constraints trees)
  constraints_made none good = tt
  constraints_made (a_word at word rest) good = tt
  constraints_made (a_string at text rest) good = tt
  constraints_made (a_list at end none rest) good = tt
  constraints_made (a_list at end (a_word place operator operands) rest) good =
      joined_made (operation operator operands (constraints operands)) (constraints rest)
      (operation_made operator operands (constraints operands) good.0.1 (constraints_made operands good.0.1)) (constraints_made rest good.1)
  constraints_made (a_list at end (a_string p t r) rest) good = tt
  constraints_made (a_list at end (a_list p e i r) rest) good = tt

  constraint_made : (trees : Trees) → AreGood Good trees → MaybeMade Good (constraint trees)
  constraint_made none good = tt
  constraint_made (a_word place operator operands) good = operation_made operator operands (constraints operands) good.1 (constraints_made operands good.1)
  constraint_made (a_string at text rest) good = tt
  constraint_made (a_list at end items rest) good = tt

  truth_made : (found : Option Bool) → MaybeMade Good (option_map_or (λ b. Some []) found None)
  truth_made None = tt
  truth_made (Some value) = tt

  word_made : (part : Part) (word : List ℕ) → Good word → MaybeMade Good (of_word part word)
  word_made (Declared table) word good = (good, tt)
  word_made (Name table) word good = either_made (bytes_eq word (codes "self")) None (Some (needed table word ∷ [])) tt (good, tt)
  word_made Target word good = by (bytes_eq word (codes "self"))
    where
      by : (b : Bool) → AreMade Good false (cond b [] (needed Types word ∷ []))
      by true = tt
      by false = (good, tt)
  word_made (Expression table) word good = name_made table word good
  word_made (Names table) word good = (good, tt)
  word_made Truth word good = truth_made (truth_word word)
  word_made Ignored word good = tt
  word_made parts.Class word good = (good, tt)
  word_made Classes word good = (good, tt)
  word_made Context word good = (good, tt)
  word_made PerhapsContext word good = (good, tt)
  word_made Range word good = (good, tt)
  word_made Level word good = (good, tt)
  word_made Address word good = (good, tt)
  word_made ExtendedPermission word good = (good, tt)
  word_made ClassPermissions word good = (good, tt)
  word_made Constraint word good = tt

  perhaps_made : (items : Trees) (inner : Option (List Piece)) → MaybeMade Good inner → MaybeMade Good (of_list PerhapsContext items inner)
  perhaps_made none inner made = tt
  perhaps_made (a_word at word rest) inner made = made
  perhaps_made (a_string at text rest) inner made = made
  perhaps_made (a_list at end items rest) inner made = made

  list_made : (part : Part) (items : Trees) (inner : Option (List Piece)) → AreGood Good items → MaybeMade Good inner → MaybeMade Good (of_list part items inner)
  list_made (Expression table) items inner good made = expression_made table items good
  list_made (Names table) items inner good made = listed_names_made table items good
  list_made Truth items inner good made = tt
  list_made Ignored items inner good made = tt
  list_made Classes items inner good made = classes_made items good
  list_made ClassPermissions items inner good made = class_made items good
  list_made Context items inner good made = made
  list_made PerhapsContext items inner good made = perhaps_made items inner made
  list_made Range items inner good made = made
  list_made ExtendedPermission items inner good made = made
  list_made Level items inner good made = level_made items good
  list_made Address items inner good made = tt
  list_made Constraint items inner good made = constraint_made items good
  list_made (Declared table) items inner good made = tt
  list_made (Name table) items inner good made = tt
  list_made Target items inner good made = tt
  list_made parts.Class items inner good made = tt

  string_made : (part : Part) → MaybeMade Good (of_string part)
  string_made (Expression table) = tt
  string_made (Names table) = tt
  string_made Truth = tt
  string_made Ignored = tt
  string_made Classes = tt
  string_made ClassPermissions = tt
  string_made Context = tt
  string_made PerhapsContext = tt
  string_made Range = tt
  string_made ExtendedPermission = tt
  string_made Level = tt
  string_made Address = tt
  string_made Constraint = tt
  string_made (Declared table) = tt
  string_made (Name table) = tt
  string_made Target = tt
  string_made parts.Class = tt

  -- the names of arguments that fit a form
  pub fit_made : (form : List Part) (trees : Trees) → AreGood Good trees → MaybeMade Good (fit form trees)
  fit_made [] none good = tt
  fit_made [] (a_word at word rest) good = tt
  fit_made [] (a_string at text rest) good = tt
  fit_made [] (a_list at end items rest) good = tt
  fit_made (part ∷ more) none good = tt
  fit_made (part ∷ more) (a_word at word rest) good = joined_made (of_word part word) (fit more rest) (word_made part word good.0) (fit_made more rest good.1)
  fit_made (part ∷ more) (a_string at text rest) good = joined_made (of_string part) (fit more rest) (string_made part) (fit_made more rest good)
  fit_made (part ∷ more) (a_list at end items rest) good =
      joined_made (of_list part items (fit (inner_parts part) items)) (fit more rest)
      (list_made part items (fit (inner_parts part) items) good.0 (fit_made (inner_parts part) items good.0)) (fit_made more rest good.1)

  rule_made : (stays : Bool) (word : List ℕ) (arguments : Trees) → AreGood Good arguments → MaybeMade Good (rule_needs stays word arguments)
  rule_made stays word arguments good =
      let alone = fit (Name Types ∷ Target ∷ ClassPermissions ∷ []) arguments in
      let three = fit (Name Types ∷ Target ∷ parts.Class ∷ Name Types ∷ []) arguments in
      let four = fit (Name Types ∷ Target ∷ parts.Class ∷ Ignored ∷ Name Types ∷ []) arguments in
      either_made (is_among rules word) (cond stays (Some []) alone) (cond (is_among type_rules word) (joined (Some (taken word ∷ [])) (type_rule_needs arguments)) None)
      (either_made stays (Some []) alone tt (fit_made (Name Types ∷ Target ∷ ClassPermissions ∷ []) arguments good))
      (either_made (is_among type_rules word) (joined (Some (taken word ∷ [])) (type_rule_needs arguments)) None
      (joined_made (Some (taken word ∷ [])) (type_rule_needs arguments) tt
      (first_made three four (fit_made (Name Types ∷ Target ∷ parts.Class ∷ Name Types ∷ []) arguments good)
      (fit_made (Name Types ∷ Target ∷ parts.Class ∷ Ignored ∷ Name Types ∷ []) arguments good)))
      tt)

  rules_made : (stay : Bool) (trees : Trees) → AreGood Good trees → MaybeMade Good (rules_need stay trees)
  rules_made stay none good = tt
  rules_made stay (a_word at word rest) good = tt
  rules_made stay (a_string at text rest) good = tt
  rules_made stay (a_list at end none rest) good = tt
  rules_made stay (a_list at end (a_word place word arguments) rest) good =
      joined_made (rule_needs stay word arguments) (rules_need stay rest) (rule_made stay word arguments good.0.1) (rules_made stay rest good.1)
  rules_made stay (a_list at end (a_string p t r) rest) good = tt
  rules_made stay (a_list at end (a_list p e i r) rest) good = tt

  pub branches_made : (settings : Settings) (holds : Bool) (trees : Trees) → AreGood Good trees → MaybeMade Good (branches_need settings holds trees)
  branches_made settings holds none good = tt
  branches_made settings holds (a_word at word rest) good = tt
  branches_made settings holds (a_string at text rest) good = tt
  branches_made settings holds (a_list at end none rest) good = tt
  branches_made settings holds (a_list at end (a_word place branch inner) rest) good =
      joined_made (branch_needs settings holds branch inner) (branches_need settings holds rest)
      (either_made (is_among branches branch) (rules_need (is_taken settings holds branch) inner) None (rules_made (is_taken settings holds branch) inner good.0.1) tt)
      (branches_made settings holds rest good.1)
  branches_made settings holds (a_list at end (a_string p t r) rest) good = tt
  branches_made settings holds (a_list at end (a_list p e i r) rest) good = tt

  pub condition_made : (trees : Trees) → AreGood Good trees → AreMade Good false (condition_names Booleans trees)
  condition_made none good = tt
  condition_made (a_word at word rest) good = name_made Booleans word good.0
  condition_made (a_string at text rest) good = tt
  condition_made (a_list at end items rest) good = names_made Booleans items good.0
