-- Statements by their forms, and the forms that operands fit.
use Rattle.std.specs.Prelude.{◌≡◌, ◌≢◌, ◌⊎◌, Bool, true, false, List, map, Option, Some, None, Vec, codes}
use Rattle.cil_specs.specs.Place as spec_place
use Rattle.cil_specs.specs.Names as spec_names
use Rattle.cil_specs.specs.Trees.{Trees, none, a_word}
use Rattle.cil_specs.specs.Expr as spec_exprs
use Rattle.cil_specs.specs.Expr.{Expresses}
use Rattle.cil_specs.specs.Statements.{Form, block, optional, type_name, type_alias, alias_actual, type_attribute, attribute_set, common, class, class_common, class_order, class_permission, class_permission_set, rule, ClassPermissions}
use Rattle.cil_specs.specs.Shape.{put_word, IsClassList, IsClassAndPermissions, ArePermissions, Fits}
use Rattle.cil_text.specs.Image.{place_of, word_of, expr_of, rule_kind_of, target_of, permissions_of}
use Rattle.cil_text.specs.Keyword.{spelling}
use Rattle.cil_text.specs.declared.keyword.Keyword.{Keyword}
use Rattle.cil_text.specs.declared.keyword.Keyword.TheVariants.{Optional}
use Rattle.cil_reader.specs.declared.word.Word.{Word}
use Rattle.cil_text.specs.declared.statement.Expr.{Expr}
use Rattle.cil_text.specs.declared.statement.ClassPermissions as code
use Rattle.cil_text.specs.declared.statement.Statement.{Statement, Block', Optional', TypeName, TypeAlias, TypeAliasActual, TypeAttribute, TypeAttributeSet, Common, Class, ClassCommon, ClassOrder, ClassPermission, ClassPermissionSet, Rule}

-- what a statement says, but for the statements inside it
abbrev pub form_of : {A : Type 0} → Statement A → Form
form_of (Block' at id shape body) = block (word_of id)
form_of (Optional' at id shape body) = optional (word_of id)
form_of (TypeName at id) = type_name (word_of id)
form_of (TypeAlias at id) = type_alias (word_of id)
form_of (TypeAliasActual at alias actual) = alias_actual (word_of alias) (word_of actual)
form_of (TypeAttribute at id) = type_attribute (word_of id)
form_of (TypeAttributeSet at attribute expr) = attribute_set (word_of attribute) (expr_of expr)
form_of (Common at id permissions) = common (word_of id) (map word_of permissions.items)
form_of (Class at id permissions) = class (word_of id) (map word_of permissions.items)
form_of (ClassCommon at the_class the_common) = class_common (word_of the_class) (word_of the_common)
form_of (ClassOrder at the_classes) = class_order (map word_of the_classes.items)
form_of (ClassPermission at id) = class_permission (word_of id)
form_of (ClassPermissionSet at set the_class permissions) = class_permission_set (word_of set) (word_of the_class) (expr_of permissions)
form_of (Rule at kind source target permissions) = rule (rule_kind_of kind) (word_of source) (target_of target) (permissions_of permissions)

-- the place of a statement's (
abbrev pub at_of : {A : Type 0} → Statement A → spec_place.Place
at_of (Block' at id shape body) = place_of at
at_of (Optional' at id shape body) = place_of at
at_of (TypeName at id) = place_of at
at_of (TypeAlias at id) = place_of at
at_of (TypeAliasActual at alias actual) = place_of at
at_of (TypeAttribute at id) = place_of at
at_of (TypeAttributeSet at attribute expr) = place_of at
at_of (Common at id permissions) = place_of at
at_of (Class at id permissions) = place_of at
at_of (ClassCommon at the_class the_common) = place_of at
at_of (ClassOrder at the_classes) = place_of at
at_of (ClassPermission at id) = place_of at
at_of (ClassPermissionSet at set the_class permissions) = place_of at
at_of (Rule at kind source target permissions) = place_of at

-- whether statements may stand inside a statement of the form
abbrev pub has_body : Form → Bool
has_body (block id) = true
has_body (optional id) = true
has_body _ = false

-- the form of a block or an optional with this first word and this name
abbrev pub scope_form : Keyword → spec_names.Word → Form
scope_form Optional id = optional id
scope_form _ id = block id

-- the keyword and the operands fit the form of the statement, which stands there, or no form
abbrev pub FitsAs : {A : Type 0} → spec_place.Place → Keyword → Trees → Option (Statement A) → Type 0
FitsAs at keyword operands None = (place : spec_place.Place) (form : Form) (inner : Trees) → Fits (a_word place (spelling keyword) operands) form inner → ⊥
FitsAs at keyword operands (Some s) = (at_of s ≡ at) × ((place : spec_place.Place) → Fits (a_word place (spelling keyword) operands) (form_of s) none)

-- the trees are an attribute and an expression, or not
abbrev pub IsAttributeAndSet : {A : Type 0} → Trees → Option (Word × Expr A) → Type 0
IsAttributeAndSet trees None = (attribute : spec_names.Word) (set : Trees) (expr : spec_exprs.WordExpr) → trees ≡ put_word attribute set → Expresses set expr none → ⊥
IsAttributeAndSet trees (Some (attribute, expr)) = (set : Trees) × (trees ≡ put_word (word_of attribute) set) × Expresses set (expr_of expr) none

-- the trees without the keyword unordered
abbrev pub IsWithoutUnordered : Trees → Trees → Type 0
IsWithoutUnordered trees classes = ((at : spec_place.Place) × (trees ≡ a_word at (codes "unordered") classes))
    ⊎ ((trees ≡ classes) × ((at : spec_place.Place) (rest : Trees) → trees ≢ a_word at (codes "unordered") rest))

-- the trees are one list of these classes, or not
abbrev pub AreClasses : {A : Type 0} → Trees → Option (Vec Word A) → Type 0
AreClasses trees None = (classes : List spec_names.Word) → IsClassList trees classes → ⊥
AreClasses trees (Some v) = IsClassList trees (map word_of v.items)

-- the trees are one list of this class and of a list that spells this expression of permissions, or not
abbrev pub AreClassAndPermissions : {A : Type 0} → Trees → Option (Word × Expr A) → Type 0
AreClassAndPermissions trees None = (the_class : spec_names.Word) (permissions : spec_exprs.WordExpr) → IsClassAndPermissions trees the_class permissions → ⊥
AreClassAndPermissions trees (Some (the_class, permissions)) = IsClassAndPermissions trees (word_of the_class) (expr_of permissions)

-- the trees are a rule's permissions, these, or not
abbrev pub ArePermissionsOf : {A : Type 0} → Trees → Option (code.ClassPermissions A) → Type 0
ArePermissionsOf trees None = (permissions : ClassPermissions) → ArePermissions trees permissions → ⊥
ArePermissionsOf trees (Some x) = ArePermissions trees (permissions_of x)
