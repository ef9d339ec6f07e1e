-- The names that the arguments of a statement declare and need, where they fit a form.
use Rattle.std.specs.Prelude.{◌≡◌, ℕ, Bool, true, false, cond, ◌&&◌, List, [], ◌∷◌, ◌++◌, map, Option, Some, None, codes, bytes_eq}
use Rattle.std.specs.Borrow.{Bor}
use Rattle.std.specs.Option.{option_map_or}
use Rattle.cil_specs.specs.Trees.{Trees, none, a_word, a_string, a_list}
use Rattle.cil_specs.specs.Shape.{is_among}
use Rattle.cil_specs.specs.Expr as exprs
use Rattle.cil_projection.specs.declared.table.Table.{Table}
use Rattle.cil_projection.specs.declared.table.Table.TheVariants.{Types, Roles, Users, Categories, Sensitivities, Levels, Ranges, Contexts, Addresses, ExtendedPermissions}
use Rattle.cil_projection.specs.declared.operand.Operand.{Operand}
use Rattle.cil_projection.specs.declared.operand.Operand.TheVariants as operands
use Rattle.cil_projection.specs.declared.part.Part.{Part}
use Rattle.cil_projection.specs.declared.part.Part.TheVariants as parts
use Rattle.cil_projection.specs.declared.part.Part.TheVariants.{Declared, Name, Target, Expression, Names, Truth, Ignored, Classes, ClassPermissions, Context, PerhapsContext, Range, Level, Address, ExtendedPermission, Constraint}
use Rattle.cil_projection.specs.declared.piece.Piece as code
use Rattle.cil_projection.specs.declared.kinds.TheConstants.{FORMS}
use Rattle.cil_projection.specs.Pieces.{Piece, blanked, taken, declared, needed, a_class, a_permission_set, opened, permission, closed, pieces_of}

-- the pieces of one thing and then those of another, where both are there
abbrev pub joined : Option (List Piece) → Option (List Piece) → Option (List Piece)
joined None after = None
joined (Some front) None = None
joined (Some front) (Some after) = Some (front ++ after)

-- the first of two answers
abbrev pub or_else : Option (List Piece) → Option (List Piece) → Option (List Piece)
or_else (Some found) other = Some found
or_else None other = other

-- the words that are no names in expressions and in conditions
abbrev pub operators : List (List ℕ)
operators = codes "and" ∷ codes "or" ∷ codes "xor" ∷ codes "not" ∷ codes "all" ∷ codes "eq" ∷ codes "neq" ∷ codes "range" ∷ []

abbrev pub name_or_operator : Table → List ℕ → List Piece
name_or_operator table word = cond (is_among operators word) [] (needed table word ∷ [])

-- expressions of permissions have the operators of the language
abbrev pub permission_or_operator : List ℕ → List Piece
permission_or_operator word = cond (is_among exprs.operators word) [] (permission word ∷ [])

-- what is needed of a word in an expression with such operands
abbrev pub of_operand : Operand → List ℕ → List Piece
of_operand (operands.Name table) word = name_or_operator table word
of_operand operands.Permission word = permission_or_operator word

-- the operands in trees, and in the lists among them
abbrev pub operands_in : Operand → Trees → List Piece
operands_in operand none = []
operands_in operand (a_word at word rest) = of_operand operand word ++ operands_in operand rest
operands_in operand (a_string at text rest) = operands_in operand rest
operands_in operand (a_list at end items rest) = operands_in operand items ++ operands_in operand rest

-- the names in them
abbrev pub names_in : Table → Trees → List Piece
names_in table trees = operands_in (operands.Name table) trees

-- whether there is no string in trees, nor in the lists among them
abbrev pub has_no_string : Trees → Bool
has_no_string none = true
has_no_string (a_word at word rest) = has_no_string rest
has_no_string (a_string at text rest) = false
has_no_string (a_list at end items rest) = has_no_string items && has_no_string rest

-- the operands of an expression
abbrev pub expression_needs : Operand → Trees → Option (List Piece)
expression_needs operand trees = cond (has_no_string trees) (Some (operands_in operand trees)) None

-- the names in an expression
abbrev pub expression_names : Table → Trees → Option (List Piece)
expression_names table trees = expression_needs (operands.Name table) trees

-- the permissions among some trees and in lists among them
abbrev pub permissions_in : Trees → Option (List Piece)
permissions_in trees = expression_needs operands.Permission trees

-- names and nothing else
abbrev pub listed_names : Table → Trees → Option (List Piece)
listed_names table none = Some []
listed_names table (a_word at name rest) = joined (Some (needed table name ∷ [])) (listed_names table rest)
listed_names table (a_string at text rest) = None
listed_names table (a_list at end items rest) = None

-- the value that a word is
abbrev pub truth_word : List ℕ → Option Bool
truth_word word = cond (bytes_eq word (codes "true")) (Some true) (cond (bytes_eq word (codes "false")) (Some false) None)

-- classes and nothing else
abbrev pub classes_in : Trees → Option (List Piece)
classes_in none = Some []
classes_in (a_word at name rest) = joined (Some (a_class name ∷ [])) (classes_in rest)
classes_in (a_string at text rest) = None
classes_in (a_list at end items rest) = None

-- a class with the permissions among these trees and in lists among them
abbrev pub listed : List ℕ → Trees → Option (List Piece)
listed name items = joined (joined (Some (opened name ∷ [])) (permissions_in items)) (Some (closed ∷ []))

-- a class and a list of its permissions, with lists among them
abbrev pub class_permissions : Trees → Option (List Piece)
class_permissions (a_word at name (a_list from end items none)) = listed name items
class_permissions trees = None

-- a sensitivity and categories
abbrev pub level : Trees → Option (List Piece)
level (a_word at name rest) = joined (Some (needed Sensitivities name ∷ [])) (expression_names Categories rest)
level trees = None

abbrev pub connectives : List (List ℕ)
connectives = codes "and" ∷ codes "or" ∷ codes "not" ∷ []

abbrev pub comparisons : List (List ℕ)
comparisons = codes "eq" ∷ codes "neq" ∷ codes "dom" ∷ codes "domby" ∷ codes "incomp" ∷ []

abbrev pub level_variables : List (List ℕ)
level_variables = codes "l1" ∷ codes "l2" ∷ codes "h1" ∷ codes "h2" ∷ []

-- whether a word is a variable of a constraint, and the table that its names are of
abbrev pub variable : List ℕ → Option Table
variable word =
    cond (is_among (codes "t1" ∷ codes "t2" ∷ codes "t3" ∷ []) word) (Some Types)
    (cond (is_among (codes "r1" ∷ codes "r2" ∷ codes "r3" ∷ []) word) (Some Roles)
    (cond (is_among (codes "u1" ∷ codes "u2" ∷ codes "u3" ∷ []) word) (Some Users) None))

-- the piece of a word that is no variable
abbrev pub unless_variable : Option Table → Piece → List Piece
unless_variable None piece = piece ∷ []
unless_variable (Some table) piece = []

-- what a variable is compared with: a variable or a name, or names
abbrev pub compared : Option Table → List ℕ → Option (List Piece)
compared None word = None
compared (Some table) word = Some (unless_variable (variable word) (needed table word))

abbrev pub compared_list : Option Table → Trees → Option (List Piece)
compared_list None items = None
compared_list (Some table) items = listed_names table items

-- a comparison of two levels
abbrev pub level_compared : List ℕ → Option (List Piece)
level_compared right = cond (is_among level_variables right) (Some []) None

-- Two operands. Levels are compared with each other alone.
abbrev pub comparison : Trees → Option (List Piece)
comparison (a_word at left (a_word place right none)) = cond (is_among level_variables left) (level_compared right) (compared (variable left) right)
comparison (a_word at left (a_list place end items none)) = compared_list (variable left) items
comparison trees = None

abbrev pub operation : List ℕ → Trees → Option (List Piece) → Option (List Piece)
operation operator operands inner = cond (is_among connectives operator) inner (cond (is_among comparisons operator) (comparison operands) None)

-- constraints and nothing else
abbrev pub constraints : Trees → Option (List Piece)
constraints none = Some []
constraints (a_list at end (a_word place operator operands) rest) = joined (operation operator operands (constraints operands)) (constraints rest)
constraints trees = None

-- the constraint that a list of these trees is
abbrev pub constraint : Trees → Option (List Piece)
constraint (a_word place operator operands) = operation operator operands (constraints operands)
constraint trees = None

-- what an argument is that is a word
abbrev pub of_word : Part → List ℕ → Option (List Piece)
of_word (Declared table) word = Some (declared table word ∷ [])
of_word (Name table) word = cond (bytes_eq word (codes "self")) None (Some (needed table word ∷ []))
of_word Target word = Some (cond (bytes_eq word (codes "self")) [] (needed Types word ∷ []))
of_word (Expression table) word = Some (name_or_operator table word)
of_word (Names table) word = Some (needed table word ∷ [])
of_word Truth word = option_map_or (λ b. Some []) (truth_word word) None
of_word Ignored word = Some []
of_word parts.Class word = Some (a_class word ∷ [])
of_word Classes word = Some (a_class word ∷ [])
of_word Context word = Some (needed Contexts word ∷ [])
of_word PerhapsContext word = Some (needed Contexts word ∷ [])
of_word Range word = Some (needed Ranges word ∷ [])
of_word Level word = Some (needed Levels word ∷ [])
of_word Address word = Some (needed Addresses word ∷ [])
of_word ExtendedPermission word = Some (needed ExtendedPermissions word ∷ [])
of_word ClassPermissions word = Some (a_permission_set word ∷ [])
of_word Constraint word = None

-- what the trees of a list are that is such an argument
abbrev pub inner_parts : Part → List Part
inner_parts Context = Name Users ∷ Name Roles ∷ Name Types ∷ Range ∷ []
inner_parts PerhapsContext = Name Users ∷ Name Roles ∷ Name Types ∷ Range ∷ []
inner_parts Range = Level ∷ Level ∷ []
inner_parts ExtendedPermission = Ignored ∷ parts.Class ∷ Ignored ∷ []
inner_parts part = []

-- what an argument is that is a list of these trees; `inner` is what they are as its inner parts
abbrev pub of_list : Part → Trees → Option (List Piece) → Option (List Piece)
of_list (Expression table) items inner = expression_names table items
of_list (Names table) items inner = listed_names table items
of_list Ignored items inner = Some []
of_list Classes items inner = classes_in items
of_list ClassPermissions items inner = class_permissions items
of_list Context items inner = inner
of_list PerhapsContext none inner = Some []
of_list PerhapsContext items inner = inner
of_list Range items inner = inner
of_list ExtendedPermission items inner = inner
of_list Level items inner = level items
of_list Address items inner = Some []
of_list Constraint items inner = constraint items
of_list part items inner = None

-- what an argument is that is a string
abbrev pub of_string : Part → Option (List Piece)
of_string Ignored = Some []
of_string part = None

-- Arguments that fit the parts of a form, one for each: the names that they declare and need.
abbrev pub fit : List Part → Trees → Option (List Piece)
fit [] none = Some []
fit [] trees = None
fit (part ∷ more) none = None
fit (part ∷ more) (a_word at word rest) = joined (of_word part word) (fit more rest)
fit (part ∷ more) (a_string at text rest) = joined (of_string part) (fit more rest)
fit (part ∷ more) (a_list at end items rest) = joined (of_list part items (fit (inner_parts part) items)) (fit more rest)

-- what an argument is that is the first of trees
abbrev pub of_first : Part → Trees → Option (List Piece)
of_first part none = None
of_first part (a_word at word rest) = of_word part word
of_first part (a_string at text rest) = of_string part
of_first part (a_list at end items rest) = of_list part items (fit (inner_parts part) items)

-- the forms of statements that are taken by their names: their first words, and what their arguments are
unfoldable pub forms : List (List ℕ × List Part)
forms = map (λ row. (row.0.now, row.1.now)) FORMS

-- forms as the code has them
abbrev pub rows_of : List (Bor (List ℕ) × Bor (List Part)) → List (List ℕ × List Part)
rows_of = map (λ row. (row.0.now, row.1.now))

-- A statement with this first word from an offset up to another, of which the arguments fit a form: blanked, and the names behind it.
abbrev pub taken_by : ℕ → ℕ → List ℕ → List Part → Trees → Option (List Piece)
taken_by from to word parts arguments = joined (Some (blanked from to ∷ taken word ∷ [])) (fit parts arguments)

-- the same by the first of some forms that it fits
abbrev pub fitting : ℕ → ℕ → List (List ℕ × List Part) → List ℕ → Trees → Option (List Piece)
fitting from to [] word arguments = None
fitting from to ((keyword, parts) ∷ forms) word arguments =
    or_else (cond (bytes_eq word keyword) (taken_by from to keyword parts arguments) None) (fitting from to forms word arguments)

-- Pieces were added: those that are there, or none are.
abbrev pub Adds : List code.Piece → List code.Piece → Bool → Option (List Piece) → Type 0
Adds before after true found = joined (Some (pieces_of before)) found ≡ Some (pieces_of after)
Adds before after false found = found ≡ None
