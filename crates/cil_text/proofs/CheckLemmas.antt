-- The words of a list of words and of expressions, one after the other.
use Rattle.cil_text.proofs.Common.{◌≡◌, ℕ, ◌+◌, ◌<◌, List, ◌∷◌, ◌++◌, length, get_or, map, drop, suc, sym, ap, ◌∙◌, add-one, drop-cons, map-append, leaves, in_role, word_of, expr_of, exprs_of, Word, Expr}
use Rattle.cil_specs.specs.Names as spec

-- words of the code in one role
abbrev pub of_words : spec.Role → List Word → List (spec.Role × spec.Word)
of_words role words = in_role role (map word_of words)

-- from one on
pub words_from : (role : spec.Role) (words : List Word) (i : ℕ) (w : Word) → i < length words → of_words role (drop i words) ≡ (role, word_of (get_or words i w)) ∷ of_words role (drop (i + 1) words)
words_from role words i w within =
    ap (of_words role) (drop-cons words i w within) ∙ ap (λ n. (role, word_of (get_or words i w)) ∷ of_words role (drop n words)) (sym (add-one i))

-- the words of expressions in one role
abbrev pub of_expr : {A : Type 0} → spec.Role → Expr A → List (spec.Role × spec.Word)
of_expr role x = in_role role (leaves (expr_of x))

abbrev pub of_exprs : {A : Type 0} → spec.Role → List (Expr A) → List (spec.Role × spec.Word)
of_exprs role xs = in_role role (leaves (exprs_of xs))

pub exprs_from : {A : Type 0} → (role : spec.Role) (xs : List (Expr A)) (i : ℕ) (x : Expr A) → i < length xs → x ≡ get_or xs i x → of_exprs role (drop i xs) ≡ of_expr role x ++ of_exprs role (drop (i + 1) xs)
exprs_from role xs i x within is =
    ap (of_exprs role) (drop-cons xs i x within) ∙ map-append (λ word. (role, word)) (leaves (expr_of (get_or xs i x))) (leaves (exprs_of (drop (suc i) xs)))
    ∙ ap (λ x. of_expr role x ++ of_exprs role (drop (suc i) xs)) (sym is) ∙ ap (λ n. of_expr role x ++ of_exprs role (drop n xs)) (sym (add-one i))

pub of_both : {A : Type 0} → (role : spec.Role) (x y : Expr A) → in_role role (leaves (expr_of x) ++ leaves (expr_of y)) ≡ of_expr role x ++ of_expr role y
of_both role x y = map-append (λ word. (role, word)) (leaves (expr_of x)) (leaves (expr_of y))
