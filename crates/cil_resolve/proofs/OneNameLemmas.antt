-- Expressions of one name, by their nodes.
use Rattle.cil_resolve.proofs.Common.{◌≡◌, ◌∙◌, List, ℕ, true, [], ◌∷◌, length, IsTrue, refl, sym, ap, subst, list_all, Word, Expr, WordExpr, named, nothing, elements, leaves, map_leaves, both_true, expr_nodes, set_expr_in, Element, expr-is, written-nodes, is_element_below, IsElement, IsExpression, element_of}
use Rattle.cil_specs.specs.Rule as spec
use Rattle.cil_parse.specs.declared.row.SetNode.{SetNode}
use Rattle.cil_parse.specs.declared.row.SetNode.TheVariants as nodes
use Rattle.cil_expression.specs.Spelling.{expr_of}
use Rattle.cil_expression.specs.declared.set_expression.SetExpression.{SetExpression}

-- a written expression is what its nodes and its words spell
spelt-by : (e : WordExpr) (spelling : List SetNode) (words : List Word) → expr_nodes e ≡ spelling → leaves e ≡ words → expr_of spelling words ≡ e
spelt-by e spelling words n l = expr-is spelling words e (sym n ∙ written-nodes e) (sym l)

-- An expression of the node of a name is that name.
pub name-alone : (e : WordExpr) → expr_nodes e ≡ nodes.Name ∷ [] → (word : Word) × (e ≡ named word)
name-alone e n = by (leaves e) refl
  where
    never : nodes.Nothing ∷ [] ≡ nodes.Name ∷ [] → ⊥
    never x = cc

    by : (words : List Word) → leaves e ≡ words → (word : Word) × (e ≡ named word)
    by [] l = absurd (never (ap expr_nodes (spelt-by e (nodes.Name ∷ []) [] n l) ∙ n))
    by (word ∷ more) l = (word, sym (spelt-by e (nodes.Name ∷ []) (word ∷ more) n l))

-- An expression of the nodes of a list of one name is that list.
pub name-listed : (e : WordExpr) → expr_nodes e ≡ nodes.Element ∷ nodes.Name ∷ nodes.Nothing ∷ [] → (word : Word) × (e ≡ elements (named word) nothing)
name-listed e n = by (leaves e) refl
  where
    never : nodes.Nothing ∷ [] ≡ nodes.Element ∷ nodes.Name ∷ nodes.Nothing ∷ [] → ⊥
    never x = cc

    by : (words : List Word) → leaves e ≡ words → (word : Word) × (e ≡ elements (named word) nothing)
    by [] l = absurd (never (ap expr_nodes (spelt-by e (nodes.Element ∷ nodes.Name ∷ nodes.Nothing ∷ []) [] n l) ∙ n))
    by (word ∷ more) l = (word, sym (spelt-by e (nodes.Element ∷ nodes.Name ∷ nodes.Nothing ∷ []) (word ∷ more) n l))

-- What the word leads to stands for the expression, whatever stands around it.
pub one-made : {A : Type 0} (names : List (List ℕ)) (f : Word → spec.Element) (expr : WordExpr) (word : Word) (element : Element) (e : SetExpression A)
    → (around : (leaf : Type 0) → leaf → Expr leaf) → expr ≡ around Word word → leaves (around Element element) ≡ element ∷ []
    → map_leaves (element_of names) (around Element element) ≡ around spec.Element (element_of names element) → map_leaves f (around Word word) ≡ around spec.Element (f word)
    → IsElement names element (f word) → set_expr_in e ≡ around Element element → IsExpression names e (map_leaves f expr)
one-made names f expr word element e around is alone mine its one made = record {
  named = ap (map_leaves (element_of names)) made ∙ mine ∙ ap (around spec.Element) one.named ∙ sym its ∙ ap (map_leaves f) (sym is);
  below =
      subst (λ l. IsTrue (list_all (is_element_below (length names)) l)) (sym (ap leaves made ∙ alone))
      (both_true (is_element_below (length names) element) true one.below refl);
}
