-- Statements, and their words.
use Rattle.std.specs.Prelude.{ℕ, ◌+◌, not, ◌&&◌, ◌||◌, nat_le, Bool, true, false, List, [], ◌∷◌, ◌++◌, map, codes}
use Rattle.cil_specs.specs.Place.{Place}
use Rattle.cil_specs.specs.Names.{Word, Role, declared, referred}
use Rattle.cil_specs.specs.Expr.{WordExpr, leaves}

pub data RuleKind : Type 0 where
  allow : RuleKind
  auditallow : RuleKind
  dontaudit : RuleKind
  neverallow : RuleKind

-- a rule's target: each source itself, or what a word names
pub data Target : Type 0 where
  itself : Target
  the_named : Word → Target

-- a rule's permissions: an expression of those of a class, or a permission set by its name
pub data ClassPermissions : Type 0 where
  anonymous : Word → WordExpr → ClassPermissions
  by_name : Word → ClassPermissions

-- What a statement says, but for the statements inside a block or an optional.
pub data Form : Type 0 where
  block : Word → Form
  optional : Word → Form
  type_name : Word → Form
  type_alias : Word → Form
  alias_actual : Word → Word → Form
  type_attribute : Word → Form
  attribute_set : Word → WordExpr → Form
  common : Word → List Word → Form
  class : Word → List Word → Form
  class_common : Word → Word → Form
  class_order : List Word → Form
  class_permission : Word → Form
  class_permission_set : Word → Word → WordExpr → Form
  rule : RuleKind → Word → Target → ClassPermissions → Form

-- Statements one after the other: none, or a first statement, with the place of its ( and what it says and the statements
-- inside it, and the statements after it.
pub data Statements : Type 0 where
  no_more : Statements
  statement : Place → Form → Statements → Statements → Statements

-- the first word of a rule
abbrev pub rule_word : RuleKind → List ℕ
rule_word allow = codes "allow"
rule_word auditallow = codes "auditallow"
rule_word dontaudit = codes "dontaudit"
rule_word neverallow = codes "neverallow"

abbrev pub as_declared : Word → Role × Word
as_declared word = (declared, word)

abbrev pub as_referred : Word → Role × Word
as_referred word = (referred, word)

-- the word of a target
abbrev pub target_words : Target → List Word
target_words itself = []
target_words (the_named word) = word ∷ []

-- the words of a class and of permissions of it, or of a permission set
abbrev pub permission_words : ClassPermissions → List (Role × Word)
permission_words (anonymous the_class permissions) = as_referred the_class ∷ map as_declared (leaves permissions)
permission_words (by_name set) = as_referred set ∷ []

-- the words in the place of a name, a reference or a permission, in the order of the text
abbrev pub words_of : Form → List (Role × Word)
words_of (block id) = as_declared id ∷ []
words_of (optional id) = as_declared id ∷ []
words_of (type_name id) = as_declared id ∷ []
words_of (type_alias id) = as_declared id ∷ []
words_of (alias_actual alias actual) = as_referred alias ∷ as_referred actual ∷ []
words_of (type_attribute id) = as_declared id ∷ []
words_of (attribute_set attribute expr) = as_referred attribute ∷ map as_referred (leaves expr)
words_of (common id permissions) = as_declared id ∷ map as_declared permissions
words_of (class id permissions) = as_declared id ∷ map as_declared permissions
words_of (class_common the_class the_common) = as_referred the_class ∷ as_referred the_common ∷ []
words_of (class_order classes) = map as_referred classes
words_of (class_permission id) = as_declared id ∷ []
words_of (class_permission_set set the_class permissions) = as_referred set ∷ permission_words (anonymous the_class permissions)
words_of (rule kind source target permissions) = as_referred source ∷ (map as_referred (target_words target) ++ permission_words permissions)

-- whether a statement is an optional
abbrev pub is_optional : Form → Bool
is_optional (optional id) = true
is_optional _ = false

-- whether a statement may stand in no optional: a block, and what declares classes and commons or says more of them
abbrev pub stands_apart : Form → Bool
stands_apart (block id) = true
stands_apart (common id permissions) = true
stands_apart (class id permissions) = true
stands_apart (class_common the_class the_common) = true
stands_apart (class_order classes) = true
stands_apart _ = false

-- whether these do stand in no optional, where the statements do or don't stand in one
abbrev pub are_apart : Bool → Statements → Bool
are_apart inside no_more = true
are_apart inside (statement at form body more) = not (inside && stands_apart form) && (are_apart (inside || is_optional form) body && are_apart inside more)

-- the offsets of a statement's ( and of its words in the place of a name, a reference or a permission
abbrev pub offsets_at : Place → Form → List ℕ
offsets_at at form = at.offset ∷ map (λ (role, word). word.at.offset) (words_of form)

-- those of statements, in the order of the text
abbrev pub statement_offsets : Statements → List ℕ
statement_offsets no_more = []
statement_offsets (statement at form body more) = offsets_at at form ++ (statement_offsets body ++ statement_offsets more)

-- whether numbers rise, from one on
abbrev pub rise_from : ℕ → List ℕ → Bool
rise_from low [] = true
rise_from low (n ∷ numbers) = nat_le low n && rise_from (n + 1) numbers
