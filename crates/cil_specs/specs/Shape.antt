-- How statements are spelt as trees, and the faults of trees that spell none.
use Rattle.std.specs.Prelude.{◌≡◌, ◌≢◌, ℕ, ◌⊎◌, Bool, false, ◌||◌, List, [], ◌∷◌, codes, bytes_eq, Some, None, IsTrue, Contains}
use Rattle.std.specs.List.{list_any, AllByRecursion}
use Rattle.cil_specs.specs.Place.{Place}
use Rattle.cil_specs.specs.TextFault.{TextFaultKind, unsupported, misshapen, not_in_optional, TextFault, IsNoLater}
use Rattle.cil_specs.specs.Names.{Word, Role, name_fault}
use Rattle.cil_specs.specs.Trees.{Trees, none, a_word, a_string, a_list, are_lists}
use Rattle.cil_specs.specs.Expr.{WordExpr, Expresses, IsListThen}
use Rattle.cil_specs.specs.Statements.{rule_word, Target, itself, the_named, Form, block, optional, type_name, type_alias, alias_actual, type_attribute, attribute_set, common, class, class_common, class_order, class_permission, class_permission_set, rule, ClassPermissions, anonymous, by_name, words_of, is_optional, Statements, no_more, statement}

-- a word, and then the rest
abbrev pub put_word : Word → Trees → Trees
put_word word rest = a_word word.at word.text rest

-- words one after the other, and nothing else
abbrev pub all_words : List Word → Trees
all_words [] = none
all_words (word ∷ words) = put_word word (all_words words)

-- the trees begin with this keyword, and then the operands come
abbrev pub Begins : Trees → List ℕ → Trees → Type 0
Begins trees keyword operands = (at : Place) × (trees ≡ a_word at keyword operands)

-- the trees are one list of words
abbrev pub IsWordList : Trees → List Word → Type 0
IsWordList trees words = IsListThen trees (all_words words) none

-- the trees are a target, and then the rest
abbrev pub IsTargetThen : Trees → Target → Trees → Type 0
IsTargetThen trees itself rest = (at : Place) × (trees ≡ a_word at (codes "self") rest)
IsTargetThen trees (the_named word) rest = (trees ≡ put_word word rest) × (word.text ≢ codes "self")

-- the trees are one list of classes, with or without the keyword unordered in front
abbrev pub IsClassList : Trees → List Word → Type 0
IsClassList trees classes = (items : Trees) × IsListThen trees items none × (((at : Place) × (items ≡ a_word at (codes "unordered") (all_words classes)))
    ⊎ ((items ≡ all_words classes) × ((at : Place) (rest : Trees) → items ≢ a_word at (codes "unordered") rest)))

-- the trees are one list, which spells the expression
abbrev pub IsExpressionList : Trees → WordExpr → Type 0
IsExpressionList trees expr = (items : Trees) × IsListThen trees items none × Expresses trees expr none

-- the trees are one list of a class and of a list that spells an expression of permissions
abbrev pub IsClassAndPermissions : Trees → Word → WordExpr → Type 0
IsClassAndPermissions trees the_class permissions = (items permission_list : Trees) × IsListThen trees items none × (items ≡ put_word the_class permission_list) × IsExpressionList permission_list permissions

-- the trees are a rule's permissions: a class and an expression, or one word
abbrev pub ArePermissions : Trees → ClassPermissions → Type 0
ArePermissions trees (anonymous the_class permissions) = IsClassAndPermissions trees the_class permissions
ArePermissions trees (by_name set) = trees ≡ put_word set none

-- The elements of a statement's list fit the form, and the last are its inner statements; form by form.
abbrev pub Fits : Trees → Form → Trees → Type 0
Fits trees (block id) inner = Begins trees (codes "block") (put_word id inner) × IsTrue (are_lists inner)
Fits trees (optional id) inner = Begins trees (codes "optional") (put_word id inner) × IsTrue (are_lists inner)
Fits trees (type_name id) inner = Begins trees (codes "type") (put_word id none) × (inner ≡ none)
Fits trees (type_alias id) inner = Begins trees (codes "typealias") (put_word id none) × (inner ≡ none)
Fits trees (alias_actual alias actual) inner = Begins trees (codes "typealiasactual") (put_word alias (put_word actual none)) × (inner ≡ none)
Fits trees (type_attribute id) inner = Begins trees (codes "typeattribute") (put_word id none) × (inner ≡ none)
Fits trees (attribute_set attribute expr) inner = (set : Trees) × Begins trees (codes "typeattributeset") (put_word attribute set) × Expresses set expr none × (inner ≡ none)
Fits trees (common id permissions) inner = (list : Trees) × Begins trees (codes "common") (put_word id list) × IsWordList list permissions × (inner ≡ none)
Fits trees (class id permissions) inner = (list : Trees) × Begins trees (codes "class") (put_word id list) × IsWordList list permissions × (inner ≡ none)
Fits trees (class_common the_class the_common) inner = Begins trees (codes "classcommon") (put_word the_class (put_word the_common none)) × (inner ≡ none)
Fits trees (class_order classes) inner = (list : Trees) × Begins trees (codes "classorder") list × IsClassList list classes × (inner ≡ none)
Fits trees (class_permission id) inner = Begins trees (codes "classpermission") (put_word id none) × (inner ≡ none)
Fits trees (class_permission_set set the_class permissions) inner = (last : Trees) × Begins trees (codes "classpermissionset") (put_word set last)
    × IsClassAndPermissions last the_class permissions × (inner ≡ none)
Fits trees (rule kind source target permissions) inner = (targets last : Trees) × Begins trees (rule_word kind) (put_word source targets)
    × IsTargetThen targets target last × ArePermissions last permissions × (inner ≡ none)

-- the first words of statements
abbrev pub keywords : List (List ℕ)
keywords = codes "block" ∷ codes "optional" ∷ codes "type" ∷ codes "typealias" ∷ codes "typealiasactual" ∷ codes "typeattribute" ∷ codes "typeattributeset"
    ∷ codes "common" ∷ codes "class" ∷ codes "classcommon" ∷ codes "classorder" ∷ codes "classpermission" ∷ codes "classpermissionset"
    ∷ codes "allow" ∷ codes "auditallow" ∷ codes "dontaudit" ∷ codes "neverallow" ∷ []

-- those of statements that no optional may hold
abbrev pub outside_optionals : List (List ℕ)
outside_optionals = codes "block" ∷ codes "class" ∷ codes "common" ∷ codes "classcommon" ∷ codes "classorder" ∷ []

abbrev pub is_among : List (List ℕ) → List ℕ → Bool
is_among words text = list_any (bytes_eq text) words

-- a word of a statement is spelt and free as its place asks
abbrev pub IsGoodWord : Role × Word → Type 0
IsGoodWord (role, word) = name_fault role word.text ≡ None

-- the first word is none that a statement inside an optional may not have
abbrev pub IsAllowed : Bool → Trees → Type 0
IsAllowed inside none = Unit {0}
IsAllowed inside (a_word at text rest) = IsTrue inside → is_among outside_optionals text ≡ false
IsAllowed inside (a_string at text rest) = Unit {0}
IsAllowed inside (a_list at end items rest) = Unit {0}

-- The trees spell the statements one after the other. Whether they stand in an optional, at whatever depth, is given.
abbrev pub Shapes : Bool → Trees → Statements → Type 0
Shapes inside trees no_more = trees ≡ none
Shapes inside trees (statement at form body more) = (end : ℕ) × (parts inner rest : Trees) × (trees ≡ a_list at end parts rest) × Fits parts form inner
    × IsAllowed inside parts × AllByRecursion IsGoodWord (words_of form) × Shapes (inside || is_optional form) inner body × Shapes inside rest more

-- a fault of this kind at a word
abbrev pub IsAtWord : TextFault → TextFaultKind → Word → Type 0
IsAtWord fault kind word = fault ≡ record { kind = kind; at = word.at; word = word.text }

-- The fault of a statement's list whose first word is this: it is no keyword; or its list doesn't fit the form; or it may not
-- stand in an optional; or one of the words in a list that fits is no name.
pub data IsWordFault (inside : Bool) (parts : Trees) (first : Word) (fault : TextFault) : Type 0 where
  no_keyword : is_among keywords first.text ≡ false → IsAtWord fault unsupported first → IsWordFault inside parts first fault
  no_fit : IsTrue (is_among keywords first.text) → ((form : Form) (inner : Trees) → Fits parts form inner → ⊥) → IsAtWord fault misshapen first → IsWordFault inside parts first fault
  in_optional : IsTrue inside → IsTrue (is_among outside_optionals first.text) → IsAtWord fault not_in_optional first → IsWordFault inside parts first fault
  no_name : (form : Form) (inner : Trees) (role : Role) (word : Word) (kind : TextFaultKind) → Fits parts form inner → Contains (words_of form) (role, word)
      → name_fault role word.text ≡ Some kind → IsAtWord fault kind word → IsWordFault inside parts first fault

-- the fault of a list that is no statement by its first element, or by its words
abbrev pub IsListFault : Bool → Place → Trees → TextFault → Type 0
IsListFault inside at none fault = IsAtWord fault misshapen (record { at = at; text = 40 ∷ [] })
IsListFault inside at (a_word place text rest) fault = IsWordFault inside (a_word place text rest) (record { at = place; text = text }) fault
IsListFault inside at (a_string place text rest) fault = IsAtWord fault misshapen (record { at = at; text = 40 ∷ [] })
IsListFault inside at (a_list place end items rest) fault = IsAtWord fault misshapen (record { at = at; text = 40 ∷ [] })

-- whether a first word is that of statements that hold others
abbrev pub holds_others : List ℕ → Bool
holds_others text = bytes_eq text (codes "block") || bytes_eq text (codes "optional")

abbrev mutual
  -- The shape faults of trees, each of which is to be a statement: those of the first list, those inside it, and those of the others.
  pub IsShapeFault : Bool → Trees → TextFault → Type 0
  IsShapeFault inside none fault = ⊥
  IsShapeFault inside (a_word at text rest) fault = IsShapeFault inside rest fault
  IsShapeFault inside (a_string at text rest) fault = IsShapeFault inside rest fault
  IsShapeFault inside (a_list at end parts rest) fault = IsListFault inside at parts fault ⊎ (IsInnerFault inside parts fault ⊎ IsShapeFault inside rest fault)

  -- those of the statements inside a block or an optional, whose list begins with this word
  pub IsInnerFault : Bool → Trees → TextFault → Type 0
  IsInnerFault inside none fault = ⊥
  IsInnerFault inside (a_word at text rest) fault = IsTrue (holds_others text) × IsBodyFault (inside || bytes_eq text (codes "optional")) rest fault
  IsInnerFault inside (a_string at text rest) fault = ⊥
  IsInnerFault inside (a_list at end items rest) fault = ⊥

  -- those of the statements behind the name of a block or an optional, where each of them is a list
  pub IsBodyFault : Bool → Trees → TextFault → Type 0
  IsBodyFault inside none fault = ⊥
  IsBodyFault inside (a_word at id rest) fault = IsTrue (are_lists rest) × IsShapeFault inside rest fault
  IsBodyFault inside (a_string at text rest) fault = ⊥
  IsBodyFault inside (a_list at end items rest) fault = ⊥

-- the first shape fault: none stands at a lesser offset, nor has a lesser code at its offset
pub record IsFirstShapeFault (trees : Trees) (fault : TextFault) : Type 0 where
  pub is : IsShapeFault false trees fault
  pub first : (other : TextFault) → IsShapeFault false trees other → IsNoLater fault other
