-- How the operands of a statement's first word fit its form.
use Rattle.cil_specs.proofs.Common.{◌≡◌, ℕ, List, ap, subst, refl, codes, IsTrue, Place, Word, Trees, none, a_word, are_lists, Expresses, rule_word, Form, block, optional, type_name, type_alias, alias_actual, type_attribute, attribute_set, common, class, class_common, class_order, class_permission, class_permission_set, rule, put_word, Begins, IsWordList, IsTargetThen, IsClassList, IsClassAndPermissions, ArePermissions, Fits}

-- the first word of a statement of the form
abbrev pub first_word : Form → List ℕ
first_word (block id) = codes "block"
first_word (optional id) = codes "optional"
first_word (type_name id) = codes "type"
first_word (type_alias id) = codes "typealias"
first_word (alias_actual alias actual) = codes "typealiasactual"
first_word (type_attribute id) = codes "typeattribute"
first_word (attribute_set attribute expr) = codes "typeattributeset"
first_word (common id permissions) = codes "common"
first_word (class id permissions) = codes "class"
first_word (class_common the_class the_common) = codes "classcommon"
first_word (class_order classes) = codes "classorder"
first_word (class_permission id) = codes "classpermission"
first_word (class_permission_set set the_class permissions) = codes "classpermissionset"
first_word (rule kind source target permissions) = rule_word kind

-- a name and a list of words
abbrev pub IsNameAndList : Trees → Word → List Word → Type 0
IsNameAndList operands id words = (list : Trees) × (operands ≡ put_word id list) × IsWordList list words

-- the operands fit the form, and the last are its inner statements
abbrev pub OperandsFit : Trees → Form → Trees → Type 0
OperandsFit operands (block id) inner = (operands ≡ put_word id inner) × IsTrue (are_lists inner)
OperandsFit operands (optional id) inner = (operands ≡ put_word id inner) × IsTrue (are_lists inner)
OperandsFit operands (type_name id) inner = (operands ≡ put_word id none) × (inner ≡ none)
OperandsFit operands (type_alias id) inner = (operands ≡ put_word id none) × (inner ≡ none)
OperandsFit operands (alias_actual alias actual) inner = (operands ≡ put_word alias (put_word actual none)) × (inner ≡ none)
OperandsFit operands (type_attribute id) inner = (operands ≡ put_word id none) × (inner ≡ none)
OperandsFit operands (attribute_set attribute expr) inner = ((set : Trees) × (operands ≡ put_word attribute set) × Expresses set expr none) × (inner ≡ none)
OperandsFit operands (common id permissions) inner = IsNameAndList operands id permissions × (inner ≡ none)
OperandsFit operands (class id permissions) inner = IsNameAndList operands id permissions × (inner ≡ none)
OperandsFit operands (class_common the_class the_common) inner = (operands ≡ put_word the_class (put_word the_common none)) × (inner ≡ none)
OperandsFit operands (class_order classes) inner = IsClassList operands classes × (inner ≡ none)
OperandsFit operands (class_permission id) inner = (operands ≡ put_word id none) × (inner ≡ none)
OperandsFit operands (class_permission_set set the_class permissions) inner = ((last : Trees) × (operands ≡ put_word set last) × IsClassAndPermissions last the_class permissions) × (inner ≡ none)
OperandsFit operands (rule kind source target permissions) inner =
    ((targets last : Trees) × (operands ≡ put_word source targets) × IsTargetThen targets target last × ArePermissions last permissions) × (inner ≡ none)

-- the trees of a fitting list are the form's first word and its operands
pub fits_begin : (trees : Trees) (form : Form) (inner : Trees) → Fits trees form inner → (place : Place) × (operands : Trees) × (trees ≡ a_word place (first_word form) operands) × OperandsFit operands form inner
fits_begin trees (block id) inner h = (h.0.0, put_word id inner, h.0.1, (refl, h.1))
fits_begin trees (optional id) inner h = (h.0.0, put_word id inner, h.0.1, (refl, h.1))
fits_begin trees (type_name id) inner h = (h.0.0, put_word id none, h.0.1, (refl, h.1))
fits_begin trees (type_alias id) inner h = (h.0.0, put_word id none, h.0.1, (refl, h.1))
fits_begin trees (alias_actual alias actual) inner h = (h.0.0, put_word alias (put_word actual none), h.0.1, (refl, h.1))
fits_begin trees (type_attribute id) inner h = (h.0.0, put_word id none, h.0.1, (refl, h.1))
fits_begin trees (attribute_set attribute expr) inner h = (h.1.0, put_word attribute h.0, h.1.1, ((h.0, refl, h.2), h.3))
fits_begin trees (common id permissions) inner h = (h.1.0, put_word id h.0, h.1.1, ((h.0, refl, h.2), h.3))
fits_begin trees (class id permissions) inner h = (h.1.0, put_word id h.0, h.1.1, ((h.0, refl, h.2), h.3))
fits_begin trees (class_common the_class the_common) inner h = (h.0.0, put_word the_class (put_word the_common none), h.0.1, (refl, h.1))
fits_begin trees (class_order classes) inner h = (h.1.0, h.0, h.1.1, (h.2, h.3))
fits_begin trees (class_permission id) inner h = (h.0.0, put_word id none, h.0.1, (refl, h.1))
fits_begin trees (class_permission_set set the_class permissions) inner h = (h.1.0, put_word set h.0, h.1.1, ((h.0, refl, h.2), h.3))
fits_begin trees (rule kind source target permissions) inner h = (h.2.0, put_word source h.0, h.2.1, ((h.0, h.1, refl, h.3, h.4), h.5))

begins_with : (place : Place) (word : List ℕ) (operands given : Trees) → operands ≡ given → Begins (a_word place word operands) word given
begins_with place word operands given same = (place, ap (a_word place word) same)

-- the first word of a form and fitting operands fit it
pub fits_from : (place : Place) (operands : Trees) (form : Form) (inner : Trees) → OperandsFit operands form inner → Fits (a_word place (first_word form) operands) form inner
fits_from place operands (attribute_set attribute expr) inner h = (h.0.0, begins_with place _ operands _ h.0.1, h.0.2, h.1)
fits_from place operands (common id permissions) inner h = (h.0.0, begins_with place _ operands _ h.0.1, h.0.2, h.1)
fits_from place operands (class id permissions) inner h = (h.0.0, begins_with place _ operands _ h.0.1, h.0.2, h.1)
fits_from place operands (class_order classes) inner h = (operands, begins_with place _ operands _ refl, h.0, h.1)
fits_from place operands (class_permission_set set the_class permissions) inner h = (h.0.0, begins_with place _ operands _ h.0.1, h.0.2, h.1)
fits_from place operands (rule kind source target permissions) inner h = (h.0.0, h.0.1, begins_with place _ operands _ h.0.2, h.0.3, h.0.4, h.1)
fits_from place operands _ inner h = (begins_with place _ operands _ h.0, h.1)

-- a fitting list that begins with this word
pub fits_parts : (place : Place) (text : List ℕ) (operands : Trees) (form : Form) (inner : Trees) → Fits (a_word place text operands) form inner → (text ≡ first_word form) × OperandsFit operands form inner
fits_parts place text operands form inner h =
    let b = fits_begin (a_word place text operands) form inner h in
    (cc b.2, subst (λ o. OperandsFit o form inner) (let e : b.1 ≡ operands = cc b.2 in e) b.3)
