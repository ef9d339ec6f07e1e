-- Set statements by numbers.
use Rattle.cil_resolve.proofs.Common.{◌≡◌, ℕ, ◌+◌, suc, true, ◌&&◌, nat_lt, List, [], ◌∷◌, ◌++◌, length, get_or, map, Contains, IsTrue, Some, refl, sym, ap, ◌∙◌, subst, arith, list_all, lt-ltb, map-append, length-map, list_all-append, Word, WordExpr, leaves, map_leaves, Placed, types, leads, references, element_words, attribute_set, name_or_none, both_true, leaves-mapped, place_of, expr_nodes, words_in, set-reference, is_element_below, is_set_below, set_expr_in, expr-is, nodes-mapped, written-spelt, filled, IsElement, AreElements, IsExpression, AreSets, number_in, element_of, Element, NumberedSet}
use Rattle.std.proofs.Common.{slice_get}
use Rattle.cil_specs.specs.Rule as spec
use Rattle.cil_expression.specs.Spelling.{expr_of, IsSpelt}
use Rattle.cil_expression.specs.declared.set_expression.SetExpression.{SetExpression}
use Rattle.cil_resolve.proofs.NumberLemmas.{number-is}
use Rattle.cil_resolve.proofs.StatementLemmas.{contained}

-- one element more
pub elements-push : (names : List (List ℕ)) (elements : List Element) (are : List spec.Element) (e : Element) (is : spec.Element) → AreElements names elements are → IsElement names e is
    → AreElements names (elements ++ e ∷ []) (are ++ is ∷ [])
elements-push names elements are e is all one = record {
  is = map-append (element_of names) elements (e ∷ []) ∙ (λ j. all.is j ++ one.named j ∷ []);
  below =
      list_all-append (is_element_below (length names)) elements (e ∷ [])
      ∙ both_true (list_all (is_element_below (length names)) elements) (is_element_below (length names) e && true) all.below (both_true (is_element_below (length names) e) true one.below refl);
}

-- a name of the expression of a set statement is a reference of it
pub leaf-refers : (s : Placed) (attribute : Word) (expr : WordExpr) (k : ℕ) (word : Word) → s.form ≡ attribute_set attribute expr → slice_get (leaves expr) k ≡ Some word
    → (slice_get (references s.form) (k + 1) ≡ Some (types, word)) × Contains (element_words s.form) word
leaf-refers s attribute expr k word form at = (
  set-reference s.form attribute expr (k + 1) word form (ap (λ f. slice_get (words_in f) (k + 1)) form ∙ ap (slice_get (attribute ∷ leaves expr)) one-more ∙ at),
  subst (λ f. Contains (element_words f) word) (sym form) (contained (leaves expr) k word at),
)
  where
    one-more : k + 1 ≡ suc k
    one-more = omega arith

-- the names of an expression led on are as many as its own
names-long : {A B : Type 0} (f : A → B) (names : List A) (xs : List Word) (g : Word → B) → map f names ≡ map g xs → length names ≡ length xs
names-long f names xs g e = sym (length-map names f) ∙ ap length e ∙ length-map xs g

-- The nodes of a statement's expression and what its names lead to are those of one expression.
pub expression-spelt : (names : List (List ℕ)) (policy : List Placed) (s : Placed) (expr : WordExpr) (elements : List Element)
    → AreElements names elements (map (spec.element_of policy s.namespace) (leaves expr)) → IsSpelt (expr_nodes expr) elements
expression-spelt names policy s expr elements are = filled expr elements (names-long (element_of names) elements (leaves expr) (spec.element_of policy s.namespace) are.is)

-- It stands for the statement's, by names.
pub expression-made : {A : Type 0} (names : List (List ℕ)) (policy : List Placed) (s : Placed) (expr : WordExpr) (elements : List Element) (e : SetExpression A)
    → (are : AreElements names elements (map (spec.element_of policy s.namespace) (leaves expr))) → set_expr_in e ≡ (expression-spelt names policy s expr elements are).expr
    → IsExpression names e (map_leaves (spec.element_of policy s.namespace) expr)
expression-made names policy s expr elements e are is =
    let x = expression-spelt names policy s expr elements are in
    let f = element_of names in
    let g = spec.element_of policy s.namespace in
    record {
      named =
          ap (map_leaves f) is
          ∙ sym (expr-is (expr_nodes expr) (map f elements) (map_leaves f x.expr) (x.nodes_are ∙ sym (nodes-mapped f x.expr)) (ap (map f) x.names_are ∙ sym (leaves-mapped f x.expr)))
          ∙ ap (expr_of (expr_nodes expr)) are.is ∙ written-spelt g expr;
      below = subst (λ l. IsTrue (list_all (is_element_below (length names)) l)) (x.names_are ∙ ap leaves (sym is)) are.below;
    }

-- a set statement, by its parts
pub set-made : {A : Type 0} (modules names : List (List ℕ)) (policy : List Placed) (s : Placed) (x : NumberedSet A) (attribute : Word) (expr : WordExpr) → get_or modules x.«module» [] ≡ s.module_name → place_of x.at ≡ s.at
    → number_in names (name_or_none types (leads policy types s.namespace attribute.text)) ≡ Some x.attribute → IsExpression names x.expression (map_leaves (spec.element_of policy s.namespace) expr)
    → AreSets modules names (x ∷ []) (spec.set_statement_of policy s (attribute_set attribute expr))
set-made modules names policy s x attribute expr m a numbered e =
    let (low, named) = number-is names (name_or_none types (leads policy types s.namespace attribute.text)) x.attribute numbered in
    record {
      is = λ j. record { module_name = m j; at = a j; attribute = named j; expr = e.named j } ∷ [];
      below =
          both_true (is_set_below (length names) x) true
          (both_true (nat_lt x.attribute (length names)) (list_all (is_element_below (length names)) (leaves (set_expr_in x.expression))) (lt-ltb x.attribute (length names) low) e.below) refl;
    }
