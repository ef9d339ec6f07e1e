-- Operands that fit a form.
use Rattle.cil_text.proofs.Common.{◌≡◌, ◌≢◌, ℕ, Option, Some, None, refl, sym, ◌∙◌, subst, codes, Trees, none, a_list, IsListThen, WordExpr, Expresses, RuleKind, rule_word, Target, itself, the_named, ClassPermissions, anonymous, by_name, Form, class_permission_set, rule, put_word, IsTargetThen, IsExpressionList, IsClassAndPermissions, ArePermissions, first_word, put_same, list_same, OperandsFit, expr_of, SpellsExpr, AreExpressionList, Expr}
use Rattle.cil_specs.specs.Place.{Place}
use Rattle.cil_specs.specs.Names as spec
use Rattle.cil_specs.specs.Statements.{allow, auditallow, dontaudit, neverallow}
use Rattle.cil_specs.proofs.ExprLemmas.{apart}

-- what the one list in trees spells, they spell
pub in_a_list : {A : Type 0} → (trees items : Trees) → IsListThen trees items none → (found : Option (Expr A)) → ((at : Place) (end : ℕ) → SpellsExpr (a_list at end items) found) → AreExpressionList trees found
in_a_list trees items list None spells = λ expr h. spells list.0 list.1 expr none none (subst (λ trees. Expresses trees expr none) list.2 h.2)
in_a_list trees items list (Some x) spells = (items, list, subst (λ trees. Expresses trees (expr_of x) none) (sym list.2) (spells list.0 list.1 none))

-- trees that are one list alone are those of the class and the permissions in it
pub class_behind : (trees items : Trees) (the_class : spec.Word) (permissions : WordExpr) → IsListThen trees items none → IsClassAndPermissions trees the_class permissions
    → (list : Trees) × (items ≡ put_word the_class list) × IsExpressionList list permissions
class_behind trees items the_class permissions list h = (h.1, (list_same trees items h.0 none none list h.2).0 ∙ h.3, h.4)

-- a target is a word
target-word : (trees last : Trees) (target : Target) → IsTargetThen trees target last → (word : spec.Word) × (trees ≡ put_word word last)
target-word trees last itself h = (record { at = h.0; text = codes "self" }, h.1)
target-word trees last (the_named w) h = (w, h.0)

-- the operands of a rule behind its source and its target
pub rule_last : (operands rest : Trees) (source : spec.Word) (given : spec.Word) (target : Target) (permissions : ClassPermissions) (kind : RuleKind)
    → operands ≡ put_word source rest → OperandsFit operands (rule kind given target permissions) none
    → (word : spec.Word) × (last : Trees) × (rest ≡ put_word word last) × ArePermissions last permissions
rule_last operands rest source given target permissions kind is h =
    let same = put_same source given rest h.0.0 (sym is ∙ h.0.2) in
    let word = target-word h.0.0 h.0.1 target h.0.3 in
    (word.0, h.0.1, same.1 ∙ word.1, h.0.4)

-- trees that are neither one word nor a class and an expression are no permissions of a rule
pub no_permissions : (trees : Trees) → ((set : spec.Word) → trees ≢ put_word set none) → ((the_class : spec.Word) (permissions : WordExpr) → IsClassAndPermissions trees the_class permissions → ⊥)
    → (permissions : ClassPermissions) → ArePermissions trees permissions → ⊥
no_permissions trees no_word no_class (anonymous the_class permissions) h = no_class the_class permissions h
no_permissions trees no_word no_class (by_name set) h = no_word set h

no-rule-word : (kind : RuleKind) → codes "classpermissionset" ≡ rule_word kind → ⊥
no-rule-word allow h = apart _ _ refl h
no-rule-word auditallow h = apart _ _ refl h
no-rule-word dontaudit h = apart _ _ refl h
no-rule-word neverallow h = apart _ _ refl h

-- operands that are no set with a class and an expression behind it fit no form under that word
pub no_permission_set : (operands inner : Trees) (form : Form)
    → ((set the_class : spec.Word) (last : Trees) (permissions : WordExpr) → operands ≡ put_word set last → IsClassAndPermissions last the_class permissions → ⊥)
    → codes "classpermissionset" ≡ first_word form → OperandsFit operands form inner → ⊥
no_permission_set operands inner (class_permission_set set the_class permissions) other is h = other set the_class h.0.0 permissions h.0.1 h.0.2
no_permission_set operands inner (rule kind source target permissions) other is h = no-rule-word kind is
no_permission_set operands inner _ other is h = apart _ _ refl is
