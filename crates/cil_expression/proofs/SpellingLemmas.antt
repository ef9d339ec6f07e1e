-- The nodes and the leaves of an expression spell it.
use Rattle.cil_expression.proofs.Common.{◌≡◌, ℕ, zero, suc, ◌+◌, List, [], ◌∷◌, ◌++◌, length, map, refl, sym, ap, ◌∙◌, arith, append_assoc, append-nil, Expr, WordExpr, every, named, opposite, both, either, one_of, nothing, elements, leaves, map_leaves, SetNode, with_one, with_two, first_or_nothing, exprs_of, expr_of, nodes_of, IsSpelt, IsWhole}
use Rattle.std.proofs.lemmas.List.{length-append}
use Rattle.cil_specs.specs.Names.{Word}
use Rattle.cil_specs.proofs.MeansLemmas.{leaves-mapped}
use Rattle.cil_parse.specs.Forms.{expr_nodes}
use Rattle.cil_parse.specs.declared.row.SetNode.TheVariants as nodes

-- the nodes of an expression in front of others spell it, and then what those spell
Spells : {leaf : Type 0} → Expr leaf → Type 0
Spells {leaf} e = (more : List SetNode) (others : List leaf) → exprs_of (nodes_of e ++ more) (leaves e ++ others) ≡ e ∷ exprs_of more others

two-spelt : {leaf : Type 0} (x y : Expr leaf) → Spells x → Spells y → (more : List SetNode) (others : List leaf)
    → exprs_of ((nodes_of x ++ nodes_of y) ++ more) ((leaves x ++ leaves y) ++ others) ≡ x ∷ y ∷ exprs_of more others
unfolding Spells
two-spelt x y first second more others =
    ap (λ l. exprs_of l ((leaves x ++ leaves y) ++ others)) (append_assoc (nodes_of x) (nodes_of y) more)
    ∙ ap (exprs_of (nodes_of x ++ (nodes_of y ++ more))) (append_assoc (leaves x) (leaves y) others)
    ∙ first (nodes_of y ++ more) (leaves y ++ others) ∙ ap (λ l. x ∷ l) (second more others)

spelt : {leaf : Type 0} (e : Expr leaf) → Spells e
unfolding Spells
spelt every = λ more others. refl
spelt (named l) = λ more others. refl
spelt (opposite x) = λ more others. ap (with_one opposite) (spelt x more others)
spelt (both x y) = λ more others. ap (with_two both) (two-spelt x y (spelt x) (spelt y) more others)
spelt (either x y) = λ more others. ap (with_two either) (two-spelt x y (spelt x) (spelt y) more others)
spelt (one_of x y) = λ more others. ap (with_two one_of) (two-spelt x y (spelt x) (spelt y) more others)
spelt nothing = λ more others. refl
spelt (elements x more) = λ behind others. ap (with_two elements) (two-spelt x more (spelt x) (spelt more) behind others)

-- The nodes and the leaves of an expression spell it.
pub expr-spelt : {leaf : Type 0} (e : Expr leaf) → expr_of (nodes_of e) (leaves e) ≡ e
unfolding Spells
expr-spelt e =
    ap (λ l. expr_of l (leaves e)) (sym (append-nil (nodes_of e))) ∙ ap (expr_of (nodes_of e ++ [])) (sym (append-nil (leaves e)))
    ∙ ap first_or_nothing (spelt e [] [])

-- The expression that nodes and names spell is the one whose nodes and leaves they are.
pub expr-is : {leaf : Type 0} (spelling : List SetNode) (names : List leaf) (e : Expr leaf) → spelling ≡ nodes_of e → names ≡ leaves e → expr_of spelling names ≡ e
expr-is spelling names e n l = (λ i. expr_of (n i) (l i)) ∙ expr-spelt e

pub whole : {leaf : Type 0} (spelling : List SetNode) (names : List leaf) → IsSpelt spelling names → IsWhole spelling names
whole spelling names s =
    let is = expr-is spelling names s.expr s.nodes_are s.names_are in
    record { nodes_are = s.nodes_are ∙ ap nodes_of (sym is); names_are = s.names_are ∙ ap leaves (sym is) }

-- Other leaves leave the nodes as they are.
pub nodes-mapped : {leaf other : Type 0} (f : leaf → other) (e : Expr leaf) → nodes_of (map_leaves f e) ≡ nodes_of e
nodes-mapped f every = refl
nodes-mapped f (named l) = refl
nodes-mapped f (opposite x) = ap (λ l. nodes.Not ∷ l) (nodes-mapped f x)
nodes-mapped f (both x y) = λ i. nodes.And ∷ (nodes-mapped f x i ++ nodes-mapped f y i)
nodes-mapped f (either x y) = λ i. nodes.Or ∷ (nodes-mapped f x i ++ nodes-mapped f y i)
nodes-mapped f (one_of x y) = λ i. nodes.Xor ∷ (nodes-mapped f x i ++ nodes-mapped f y i)
nodes-mapped f nothing = refl
nodes-mapped f (elements x more) = λ i. nodes.Element ∷ (nodes-mapped f x i ++ nodes-mapped f more i)

-- The nodes that are kept of a written expression are its nodes.
pub written-nodes : (e : WordExpr) → expr_nodes e ≡ nodes_of e
written-nodes every = refl
written-nodes (named w) = refl
written-nodes (opposite x) = ap (λ l. nodes.Not ∷ l) (written-nodes x)
written-nodes (both x y) = λ i. nodes.And ∷ (written-nodes x i ++ written-nodes y i)
written-nodes (either x y) = λ i. nodes.Or ∷ (written-nodes x i ++ written-nodes y i)
written-nodes (one_of x y) = λ i. nodes.Xor ∷ (written-nodes x i ++ written-nodes y i)
written-nodes nothing = refl
written-nodes (elements x more) = λ i. nodes.Element ∷ (written-nodes x i ++ written-nodes more i)

-- The nodes of a written expression, and what its words lead to, spell the expression of what they lead to.
pub written-spelt : {leaf : Type 0} (f : Word → leaf) (e : WordExpr) → expr_of (expr_nodes e) (map f (leaves e)) ≡ map_leaves f e
written-spelt f e = expr-is (expr_nodes e) (map f (leaves e)) (map_leaves f e) (written-nodes e ∙ sym (nodes-mapped f e)) (sym (leaves-mapped f e))

-- a list as two parts of these lengths
record InParts {X : Type 0} (xs : List X) (n m : ℕ) : Type 0 where
  front : List X
  back : List X
  whole : xs ≡ front ++ back
  front_long : length front ≡ n
  back_long : length back ≡ m

in-parts : {X : Type 0} (n m : ℕ) (xs : List X) → length xs ≡ n + m → InParts xs n m
in-parts zero m xs e = record { front = []; back = xs; whole = refl; front_long = refl; back_long = omega (arith, e) }
in-parts (suc n) m [] e = absurd (omega (arith, e))
in-parts (suc n) m (x ∷ xs) e =
    let p = in-parts n m xs (omega (arith, e)) in
    record { front = x ∷ p.front; back = p.back; whole = ap (λ l. x ∷ l) p.whole; front_long = ap suc p.front_long; back_long = p.back_long }

-- two expressions for two
record AreFilled {leaf other : Type 0} (x y : Expr leaf) (names : List other) : Type 0 where
  a : Expr other
  b : Expr other
  nodes_are : nodes_of x ++ nodes_of y ≡ nodes_of a ++ nodes_of b
  names_are : names ≡ leaves a ++ leaves b

two-filled : {leaf other : Type 0} (x y : Expr leaf) → ((names : List other) → length names ≡ length (leaves x) → IsSpelt (nodes_of x) names)
    → ((names : List other) → length names ≡ length (leaves y) → IsSpelt (nodes_of y) names) → (names : List other) → length names ≡ length (leaves x ++ leaves y) → AreFilled x y names
two-filled x y first second names long =
    let p = in-parts (length (leaves x)) (length (leaves y)) names (long ∙ length-append (leaves x) (leaves y)) in
    let a = first p.front p.front_long in
    let b = second p.back p.back_long in
    record { a = a.expr; b = b.expr; nodes_are = λ i. a.nodes_are i ++ b.nodes_are i; names_are = p.whole ∙ (λ i. a.names_are i ++ b.names_are i) }

-- The nodes of an expression and as many names as it has leaves are those of one expression.
pub nodes-filled : {leaf other : Type 0} (e : Expr leaf) (names : List other) → length names ≡ length (leaves e) → IsSpelt (nodes_of e) names
nodes-filled every [] long = record { expr = every; nodes_are = refl; names_are = refl }
nodes-filled every (l ∷ names) long = absurd (omega (arith, long))
nodes-filled (named w) [] long = absurd (omega (arith, long))
nodes-filled (named w) (l ∷ []) long = record { expr = named l; nodes_are = refl; names_are = refl }
nodes-filled (named w) (l ∷ m ∷ names) long = absurd (omega (arith, long))
nodes-filled (opposite x) names long = let a = nodes-filled x names long in record { expr = opposite a.expr; nodes_are = ap (λ l. nodes.Not ∷ l) a.nodes_are; names_are = a.names_are }
nodes-filled (both x y) names long =
    let two = two-filled x y (nodes-filled x) (nodes-filled y) names long in
    record { expr = both two.a two.b; nodes_are = ap (λ l. nodes.And ∷ l) two.nodes_are; names_are = two.names_are }
nodes-filled (either x y) names long =
    let two = two-filled x y (nodes-filled x) (nodes-filled y) names long in
    record { expr = either two.a two.b; nodes_are = ap (λ l. nodes.Or ∷ l) two.nodes_are; names_are = two.names_are }
nodes-filled (one_of x y) names long =
    let two = two-filled x y (nodes-filled x) (nodes-filled y) names long in
    record { expr = one_of two.a two.b; nodes_are = ap (λ l. nodes.Xor ∷ l) two.nodes_are; names_are = two.names_are }
nodes-filled nothing [] long = record { expr = nothing; nodes_are = refl; names_are = refl }
nodes-filled nothing (l ∷ names) long = absurd (omega (arith, long))
nodes-filled (elements x more) names long =
    let two = two-filled x more (nodes-filled x) (nodes-filled more) names long in
    record { expr = elements two.a two.b; nodes_are = ap (λ l. nodes.Element ∷ l) two.nodes_are; names_are = two.names_are }

-- So are the nodes that are kept of a written expression and as many names as it has words.
pub filled : {leaf : Type 0} (e : WordExpr) (names : List leaf) → length names ≡ length (leaves e) → IsSpelt (expr_nodes e) names
filled e names long =
    let s = nodes-filled e names long in
    record { expr = s.expr; nodes_are = written-nodes e ∙ s.nodes_are; names_are = s.names_are }
