-- A list fits one form at most.
use Rattle.cil_specs.proofs.Common.{◌≡◌, ℕ, inl, inr, List, [], ◌∷◌, sym, ◌∙◌, ap, subst, refl, false, codes, bytes_eq, Word, Trees, none, a_list, IsListThen, WordExpr, Expresses, RuleKind, allow, auditallow, dontaudit, neverallow, rule_word, Target, itself, the_named, Form, block, optional, type_name, type_alias, alias_actual, type_attribute, attribute_set, common, class, class_common, class_order, class_permission, class_permission_set, rule, ClassPermissions, anonymous, by_name, put_word, all_words, IsWordList, IsTargetThen, IsClassList, IsClassAndPermissions, ArePermissions, Fits}
use Rattle.cil_specs.proofs.ExprLemmas.{apart}
use Rattle.cil_specs.proofs.ExprSame.{same_word, expresses_same}
use Rattle.cil_specs.proofs.FormLemmas.{first_word, IsNameAndList, OperandsFit, fits_begin, fits_parts}

-- a word in front, and the rest
pub put_same : (v w : Word) (rest after : Trees) → put_word v rest ≡ put_word w after → (v ≡ w) × (rest ≡ after)
put_same v w rest after h = (same_word v w (cc h) (cc h), cc h)

pub all_words_same : (vs ws : List Word) → all_words vs ≡ all_words ws → vs ≡ ws
all_words_same [] [] h = refl
all_words_same [] (w ∷ ws) h = absurd cc
all_words_same (v ∷ vs) [] h = absurd cc
all_words_same (v ∷ vs) (w ∷ ws) h =
    let p = put_same v w (all_words vs) (all_words ws) h in
    let q = all_words_same vs ws p.1 in
    λ i. p.0 i ∷ q i

-- a list in front, and the rest
pub list_same : (trees items others rest after : Trees) → IsListThen trees items rest → IsListThen trees others after → (items ≡ others) × (rest ≡ after)
list_same trees items others rest after h k = (cc (h.2, k.2), cc (h.2, k.2))

pub word_list_same : (trees : Trees) (vs ws : List Word) → IsWordList trees vs → IsWordList trees ws → vs ≡ ws
word_list_same trees vs ws h k = all_words_same vs ws (list_same trees (all_words vs) (all_words ws) none none h k).0

name_and_list_same : (operands : Trees) (v w : Word) (vs ws : List Word) → IsNameAndList operands v vs → IsNameAndList operands w ws → (v ≡ w) × (vs ≡ ws)
name_and_list_same operands v w vs ws h k =
    let p = put_same v w h.0 k.0 (sym h.1 ∙ k.1) in
    (p.0, word_list_same k.0 vs ws (subst (λ list. IsWordList list vs) p.1 h.2) k.2)

target_same : (trees : Trees) (x y : Target) (rest after : Trees) → IsTargetThen trees x rest → IsTargetThen trees y after → (x ≡ y) × (rest ≡ after)
target_same trees itself itself rest after h k = (refl, cc (h.1, k.1))
target_same trees itself (the_named w) rest after h k = absurd (k.1 (let e : w.text ≡ codes "self" = cc (h.1, k.0) in e))
target_same trees (the_named v) itself rest after h k = absurd (h.1 (let e : v.text ≡ codes "self" = cc (h.0, k.1) in e))
target_same trees (the_named v) (the_named w) rest after h k =
    let p = put_same v w rest after (sym h.0 ∙ k.0) in
    (ap the_named p.0, p.1)

class_list_same : (trees : Trees) (vs ws : List Word) → IsClassList trees vs → IsClassList trees ws → vs ≡ ws
class_list_same trees vs ws (items, list, inl h) (others, again, inl k) =
    let same : items ≡ others = (list_same trees items others none none list again).0 in
    all_words_same vs ws (cc (h.1, k.1))
class_list_same trees vs ws (items, list, inl h) (others, again, inr k) =
    let same : items ≡ others = (list_same trees items others none none list again).0 in
    absurd (k.1 h.0 (all_words vs) (sym same ∙ h.1))
class_list_same trees vs ws (items, list, inr h) (others, again, inl k) =
    let same : items ≡ others = (list_same trees items others none none list again).0 in
    absurd (h.1 k.0 (all_words ws) (same ∙ k.1))
class_list_same trees vs ws (items, list, inr h) (others, again, inr k) =
    let same : items ≡ others = (list_same trees items others none none list again).0 in
    all_words_same vs ws (sym h.0 ∙ same ∙ k.0)

class_and_permissions_same : (trees : Trees) (v w : Word) (x y : WordExpr) → IsClassAndPermissions trees v x → IsClassAndPermissions trees w y → (v ≡ w) × (x ≡ y)
class_and_permissions_same trees v w x y h k =
    let same : h.0 ≡ k.0 = (list_same trees h.0 k.0 none none h.2 k.2).0 in
    let p = put_same v w h.1 k.1 (sym h.3 ∙ same ∙ k.3) in
    (p.0, (expresses_same x k.1 none (subst (λ list. Expresses list x none) p.1 h.4.2) y none k.4.2).0)

-- a list is no word
permissions_same : (trees : Trees) (x y : ClassPermissions) → ArePermissions trees x → ArePermissions trees y → x ≡ y
permissions_same trees (anonymous c d) (anonymous e f) h k = let p = class_and_permissions_same trees c e d f h k in λ i. anonymous (p.0 i) (p.1 i)
permissions_same trees (anonymous c d) (by_name w) h k = absurd (let e : a_list h.2.0 h.2.1 h.0 none ≡ put_word w none = sym h.2.2 ∙ k in cc e)
permissions_same trees (by_name v) (anonymous e f) h k = absurd (let e : a_list k.2.0 k.2.1 k.0 none ≡ put_word v none = sym k.2.2 ∙ h in cc e)
permissions_same trees (by_name v) (by_name w) h k = ap by_name (put_same v w none none (sym h ∙ k)).0

rule_word_same : (k l : RuleKind) → rule_word k ≡ rule_word l → k ≡ l
rule_word_same allow allow h = refl
rule_word_same auditallow auditallow h = refl
rule_word_same dontaudit dontaudit h = refl
rule_word_same neverallow neverallow h = refl
rule_word_same allow auditallow h = absurd (apart _ _ refl h)
rule_word_same allow dontaudit h = absurd (apart _ _ refl h)
rule_word_same allow neverallow h = absurd (apart _ _ refl h)
rule_word_same auditallow _ h = absurd (apart _ _ refl h)
rule_word_same dontaudit _ h = absurd (apart _ _ refl h)
rule_word_same neverallow _ h = absurd (apart _ _ refl h)

-- no rule begins with another word
not_rule : (word : List ℕ) (kind : RuleKind) → bytes_eq word (codes "allow") ≡ false → bytes_eq word (codes "auditallow") ≡ false → bytes_eq word (codes "dontaudit") ≡ false
    → bytes_eq word (codes "neverallow") ≡ false → word ≡ rule_word kind → ⊥
not_rule word allow a b c d h = apart word _ a h
not_rule word auditallow a b c d h = apart word _ b h
not_rule word dontaudit a b c d h = apart word _ c h
not_rule word neverallow a b c d h = apart word _ d h

-- Where operands of a first word fit it in no way, no form fits the two.

pub no_common : (operands inner : Trees) (form : Form) → ((id : Word) (permissions : List Word) → IsNameAndList operands id permissions → ⊥) → codes "common" ≡ first_word form → OperandsFit operands form inner → ⊥
no_common operands inner (common id permissions) other is h = other id permissions h.0
no_common operands inner (rule kind source target permissions) other is h = not_rule _ kind refl refl refl refl is
no_common operands inner _ other is h = apart _ _ refl is

pub no_class : (operands inner : Trees) (form : Form) → ((id : Word) (permissions : List Word) → IsNameAndList operands id permissions → ⊥) → codes "class" ≡ first_word form → OperandsFit operands form inner → ⊥
no_class operands inner (class id permissions) other is h = other id permissions h.0
no_class operands inner (rule kind source target permissions) other is h = not_rule _ kind refl refl refl refl is
no_class operands inner _ other is h = apart _ _ refl is

pub no_class_order : (operands inner : Trees) (form : Form) → ((classes : List Word) → IsClassList operands classes → ⊥) → codes "classorder" ≡ first_word form → OperandsFit operands form inner → ⊥
no_class_order operands inner (class_order classes) other is h = other classes h.0
no_class_order operands inner (rule kind source target permissions) other is h = not_rule _ kind refl refl refl refl is
no_class_order operands inner _ other is h = apart _ _ refl is

-- a form that begins with a rule's word is a rule of that kind
abbrev pub IsRuleOf : RuleKind → Form → Type 0
IsRuleOf kind (rule other source target permissions) = kind ≡ other
IsRuleOf kind _ = ⊥

rule_of : (kind : RuleKind) (form : Form) → rule_word kind ≡ first_word form → IsRuleOf kind form
rule_of kind (rule other source target permissions) h = rule_word_same kind other h
rule_of allow _ h = apart _ _ refl h
rule_of auditallow _ h = apart _ _ refl h
rule_of dontaudit _ h = apart _ _ refl h
rule_of neverallow _ h = apart _ _ refl h

pub no_rule : (kind : RuleKind) (operands inner : Trees) (form : Form) → ((source : Word) (target : Target) (permissions : ClassPermissions) → OperandsFit operands (rule kind source target permissions) none → ⊥)
    → rule_word kind ≡ first_word form → OperandsFit operands form inner → ⊥
no_rule kind operands inner (rule same source target permissions) other is h = other source target permissions (h.0, refl)
no_rule kind operands inner form other is h = rule_of kind form is

scope-same : (v w : Word) (operands inner others : Trees) → operands ≡ put_word v inner → operands ≡ put_word w others → (v ≡ w) × (inner ≡ others)
scope-same v w operands inner others h k = put_same v w inner others (sym h ∙ k)

pair-same : (v w x y : Word) (operands : Trees) → operands ≡ put_word v (put_word w none) → operands ≡ put_word x (put_word y none) → (v ≡ x) × (w ≡ y)
pair-same v w x y operands h k =
    let p = put_same v x (put_word w none) (put_word y none) (sym h ∙ k) in
    (p.0, (put_same w y none none p.1).0)

-- operands of one first word fit one form at most
pub operands_same : (operands inner others : Trees) (f g : Form) → OperandsFit operands f inner → OperandsFit operands g others → first_word f ≡ first_word g → (f ≡ g) × (inner ≡ others)
operands_same operands inner others (block v) (block w) h k is = let p = scope-same v w operands inner others h.0 k.0 in (ap block p.0, p.1)
operands_same operands inner others (optional v) (optional w) h k is = let p = scope-same v w operands inner others h.0 k.0 in (ap optional p.0, p.1)
operands_same operands inner others (type_name v) (type_name w) h k is = (ap type_name (scope-same v w operands none none h.0 k.0).0, h.1 ∙ sym k.1)
operands_same operands inner others (type_alias v) (type_alias w) h k is = (ap type_alias (scope-same v w operands none none h.0 k.0).0, h.1 ∙ sym k.1)
operands_same operands inner others (type_attribute v) (type_attribute w) h k is = (ap type_attribute (scope-same v w operands none none h.0 k.0).0, h.1 ∙ sym k.1)
operands_same operands inner others (alias_actual v w) (alias_actual x y) h k is = let p = pair-same v w x y operands h.0 k.0 in (λ i. alias_actual (p.0 i) (p.1 i), h.1 ∙ sym k.1)
operands_same operands inner others (class_common v w) (class_common x y) h k is = let p = pair-same v w x y operands h.0 k.0 in (λ i. class_common (p.0 i) (p.1 i), h.1 ∙ sym k.1)
operands_same operands inner others (attribute_set v x) (attribute_set w y) h k is =
    let p = scope-same v w operands h.0.0 k.0.0 h.0.1 k.0.1 in
    let q = expresses_same x h.0.0 none h.0.2 y none (subst (λ set. Expresses set y none) (sym p.1) k.0.2) in
    (λ i. attribute_set (p.0 i) (q.0 i), h.1 ∙ sym k.1)
operands_same operands inner others (common v vs) (common w ws) h k is = let p = name_and_list_same operands v w vs ws h.0 k.0 in (λ i. common (p.0 i) (p.1 i), h.1 ∙ sym k.1)
operands_same operands inner others (class v vs) (class w ws) h k is = let p = name_and_list_same operands v w vs ws h.0 k.0 in (λ i. class (p.0 i) (p.1 i), h.1 ∙ sym k.1)
operands_same operands inner others (class_order vs) (class_order ws) h k is = (ap class_order (class_list_same operands vs ws h.0 k.0), h.1 ∙ sym k.1)
operands_same operands inner others (class_permission v) (class_permission w) h k is = (ap class_permission (scope-same v w operands none none h.0 k.0).0, h.1 ∙ sym k.1)
operands_same operands inner others (class_permission_set v c x) (class_permission_set w d y) h k is =
    let p = scope-same v w operands h.0.0 k.0.0 h.0.1 k.0.1 in
    let q = class_and_permissions_same k.0.0 c d x y (subst (λ last. IsClassAndPermissions last c x) p.1 h.0.2) k.0.2 in
    (λ i. class_permission_set (p.0 i) (q.0 i) (q.1 i), h.1 ∙ sym k.1)
operands_same operands inner others (rule kind v x c) (rule other w y d) h k is =
    let source = scope-same v w operands h.0.0 k.0.0 h.0.2 k.0.2 in
    let target = target_same k.0.0 x y h.0.1 k.0.1 (subst (λ targets. IsTargetThen targets x h.0.1) source.1 h.0.3) k.0.3 in
    let last = permissions_same k.0.1 c d (subst (λ last. ArePermissions last c) target.1 h.0.4) k.0.4 in
    let same = rule_word_same kind other is in
    (λ i. rule (same i) (source.0 i) (target.0 i) (last i), h.1 ∙ sym k.1)
operands_same operands inner others (rule kind v x c) g h k is = absurd (rule_of kind g is)
operands_same operands inner others f (rule kind v x c) h k is = absurd (rule_of kind f (sym is))
operands_same operands inner others _ _ h k is = absurd (apart _ _ refl is)

-- a list fits one form at most
pub fits_same : (trees inner others : Trees) (f g : Form) → Fits trees f inner → Fits trees g others → (f ≡ g) × (inner ≡ others)
fits_same trees inner others f g h k =
    let b = fits_begin trees f inner h in
    let p = fits_parts b.0 (first_word f) b.1 g others (subst (λ trees. Fits trees g others) b.2 k) in
    operands_same b.1 inner others f g b.3 p.1 p.0
