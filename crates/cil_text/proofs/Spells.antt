-- What the front of trees spells, as the code finds it.
use Rattle.cil_text.proofs.Common.{◌≡◌, ◌≢◌, ℕ, Bool, true, Option, Some, None, refl, sym, ◌∙◌, ap, subst, bytes_eq, list_any, Trees, none, a_word, a_string, a_list, put_word, every, operators, Expresses, HasNoOperator, operator_of, AreOperands, operation_spelt, operation_is, no_all, is_nothing, expr_of, operator_word, SpellsBoxed, SpellsOne, SpellsOperation, Expr}
use Rattle.cil_specs.specs.Place.{Place}
use Rattle.cil_specs.specs.Names.{Word}
use Rattle.cil_specs.specs.Expr as spec
use Rattle.cil_text.specs.declared.expr.Operator.{Operator}
use Rattle.cil_text.specs.declared.expr.Operator.TheVariants.{And, All}
use Rattle.cil_text.specs.declared.statement.Expr.TheVariants as exprs
use Rattle.std.specs.Bool.{then_some}
use Rattle.std.specs.Prelude.{Box}

-- where no word stands first, no operator does
pub no_word_first : (trees : Trees) → ((word : Word) (rest : Trees) → trees ≢ put_word word rest) → HasNoOperator trees
no_word_first none no_word = tt
no_word_first (a_word at text rest) no_word = absurd (no_word (record { at = at; text = text }) rest refl)
no_word_first (a_string at text rest) no_word = tt
no_word_first (a_list at end items rest) no_word = tt

is_operator : (o : Operator) → list_any (bytes_eq (operator_word o)) operators ≡ true
is_operator And = refl
is_operator _ = refl

-- an operator and its operands spell the operation
pub operation_found : (o p : Operator) (operands : Trees) (e : spec.WordExpr) → o ≡ p → operator_word p ≡ operator_of e → AreOperands operands e
    → (at place : Place) (end : ℕ) (rest : Trees) → Expresses (a_list at end (a_word place (operator_word o) operands) rest) e rest
operation_found o p operands e is same fits at place end rest =
    subst (λ o. Expresses (a_list at end (a_word place (operator_word o) operands) rest) e rest) (sym is)
    (subst (λ word. Expresses (a_list at end (a_word place word operands) rest) e rest) (sym same) (operation_spelt at place end operands rest e fits))

-- where the operands fit no operation of the operator, the two spell none
pub operation_misfit : (o p : Operator) (operands : Trees) → o ≡ p → ((e : spec.WordExpr) → (operator_word p ≡ operator_of e) × AreOperands operands e → ⊥)
    → (at place : Place) (end : ℕ) (e : spec.WordExpr) (rest after : Trees) → Expresses (a_list at end (a_word place (operator_word o) operands) rest) e after → ⊥
operation_misfit o p operands is misfit at place end e rest after h =
    misfit e (operation_is at place end (operator_word p) operands rest after e (is_operator p) (subst (λ o. Expresses (a_list at end (a_word place (operator_word o) operands) rest) e after) is h))

-- whether there are operands is all that the operator all asks
pub all_found : {A : Type 0} → (o : Operator) (operands : Trees) (found : Option (Expr A)) (empty : Bool) → o ≡ All → empty ≡ is_nothing operands → found ≡ then_some empty exprs.All
    → SpellsOperation (operator_word o) operands found
all_found {A} o operands found empty is sees answers =
    subst (SpellsOperation {A = A} (operator_word o) operands) (sym (answers ∙ ap (λ b. then_some b whole) sees)) (by operands)
  where
    whole : Expr A
    whole = exprs.All

    by : (operands : Trees) → SpellsOperation (operator_word o) operands (then_some (is_nothing operands) whole)
    by none = operation_found o All none every is refl refl
    by (a_word at text rest) = operation_misfit o All (a_word at text rest) is (λ e. no_all (a_word at text rest) e (λ h. absurd cc))
    by (a_string at text rest) = operation_misfit o All (a_string at text rest) is (λ e. no_all (a_string at text rest) e (λ h. absurd cc))
    by (a_list at end items rest) = operation_misfit o All (a_list at end items rest) is (λ e. no_all (a_list at end items rest) e (λ h. absurd cc))

-- what one tree spells, the trees do that are this one alone
pub spells_one : {A : Type 0} → (front : Trees → Trees) (trees : Trees) → trees ≡ front none → (found : Option (Box (Expr A) A)) → SpellsBoxed front found → SpellsOne trees found
spells_one front trees is None spells = λ e h. spells e none none (subst (λ trees. Expresses trees e none) is h)
spells_one front trees is (Some x) spells = subst (λ trees. Expresses trees (expr_of x.value) none) (sym is) (spells none)
