-- Expressions that are the same come to one, by whatever those of their leaves that are the same lead to.
use Rattle.cil_expression.proofs.Common.{◌≡◌, Bool, true, false, ◌&&◌, List, [], ◌∷◌, map, length, refl, sym, ap, ◌∙◌, arith, true≢false, Expr, leaves, map_leaves, SetNode, holds_by, all_same, same_node, are_same, nodes_of, expr_of}
use Rattle.cil_specs.proofs.MeansLemmas.{leaves-mapped}
use Rattle.cil_parse.specs.declared.row.SetNode.TheVariants as nodes
use Rattle.cil_expression.proofs.HoldsLemmas.{holds-mapped}
use Rattle.cil_expression.proofs.SpellingLemmas.{expr-spelt, nodes-mapped}

node-is : (x y : SetNode) → same_node x y ≡ true → x ≡ y
node-is nodes.All nodes.All e = refl
node-is nodes.Name nodes.Name e = refl
node-is nodes.Not nodes.Not e = refl
node-is nodes.And nodes.And e = refl
node-is nodes.Or nodes.Or e = refl
node-is nodes.Xor nodes.Xor e = refl
node-is nodes.Nothing nodes.Nothing e = refl
node-is nodes.Element nodes.Element e = refl
node-is _ _ e = absurd (true≢false (sym e))

node-same : (x : SetNode) → same_node x x ≡ true
node-same nodes.All = refl
node-same _ = refl

both-are : (a b : Bool) → (a && b) ≡ true → (a ≡ true) × (b ≡ true)
both-are true b e = (refl, e)
both-are false b e = absurd (true≢false (sym e))

pub nodes-are : (xs ys : List SetNode) → all_same same_node xs ys ≡ true → xs ≡ ys
nodes-are [] [] e = refl
nodes-are [] (y ∷ ys) e = absurd (true≢false (sym e))
nodes-are (x ∷ xs) [] e = absurd (true≢false (sym e))
nodes-are (x ∷ xs) (y ∷ ys) e = let two = both-are (same_node x y) (all_same same_node xs ys) e in λ i. node-is x y two.0 i ∷ nodes-are xs ys two.1 i

nodes-same : (xs : List SetNode) → all_same same_node xs xs ≡ true
nodes-same [] = refl
nodes-same (x ∷ xs) = λ i. node-same x i && nodes-same xs i

-- items that are the same lead to one list
all-led : {first second other : Type 0} (same : first → second → Bool) (f : first → other) (g : second → other) → ((x : first) (y : second) → same x y ≡ true → f x ≡ g y)
    → (xs : List first) (ys : List second) → all_same same xs ys ≡ true → map f xs ≡ map g ys
all-led same f g lead [] [] e = refl
all-led same f g lead [] (y ∷ ys) e = absurd (true≢false (sym e))
all-led same f g lead (x ∷ xs) [] e = absurd (true≢false (sym e))
all-led same f g lead (x ∷ xs) (y ∷ ys) e = let two = both-are (same x y) (all_same same xs ys) e in λ i. lead x y two.0 i ∷ all-led same f g lead xs ys two.1 i

led-all : {first second other : Type 0} (same : first → second → Bool) (f : first → other) (g : second → other) → ((x : first) (y : second) → f x ≡ g y → same x y ≡ true)
    → (xs : List first) (ys : List second) → map f xs ≡ map g ys → all_same same xs ys ≡ true
led-all same f g tell [] [] e = refl
led-all same f g tell [] (y ∷ ys) e = absurd (omega (arith, ap length e))
led-all same f g tell (x ∷ xs) [] e = absurd (omega (arith, ap length e))
led-all same f g tell (x ∷ xs) (y ∷ ys) e =
    let head : f x ≡ g y = cc in
    let tail : map f xs ≡ map g ys = cc in
    λ i. tell x y head i && led-all same f g tell xs ys tail i

-- Where leaves that are the same lead to one thing, expressions that are the same come to one.
pub same-mapped : {first second other : Type 0} (same : first → second → Bool) (f : first → other) (g : second → other) → ((x : first) (y : second) → same x y ≡ true → f x ≡ g y)
    → (d : Expr first) (e : Expr second) → are_same same d e ≡ true → map_leaves f d ≡ map_leaves g e
same-mapped same f g lead d e is =
    let two = both-are (all_same same_node (nodes_of d) (nodes_of e)) (all_same same (leaves d) (leaves e)) is in
    let nodes : nodes_of (map_leaves f d) ≡ nodes_of (map_leaves g e) = nodes-mapped f d ∙ nodes-are (nodes_of d) (nodes_of e) two.0 ∙ sym (nodes-mapped g e) in
    let names : leaves (map_leaves f d) ≡ leaves (map_leaves g e) = leaves-mapped f d ∙ all-led same f g lead (leaves d) (leaves e) two.1 ∙ sym (leaves-mapped g e) in
    sym (expr-spelt (map_leaves f d)) ∙ (λ i. expr_of (nodes i) (names i)) ∙ expr-spelt (map_leaves g e)

-- Where leaves that lead to one thing are the same, expressions that come to one are.
pub mapped-same : {first second other : Type 0} (same : first → second → Bool) (f : first → other) (g : second → other) → ((x : first) (y : second) → f x ≡ g y → same x y ≡ true)
    → (d : Expr first) (e : Expr second) → map_leaves f d ≡ map_leaves g e → are_same same d e ≡ true
mapped-same same f g tell d e is =
    let nodes : nodes_of d ≡ nodes_of e = sym (nodes-mapped f d) ∙ ap nodes_of is ∙ nodes-mapped g e in
    let names : map f (leaves d) ≡ map g (leaves e) = sym (leaves-mapped f d) ∙ ap leaves is ∙ leaves-mapped g e in
    let first = ap (all_same same_node (nodes_of d)) (sym nodes) ∙ nodes-same (nodes_of d) in
    let second = led-all same f g tell (leaves d) (leaves e) names in
    λ i. first i && second i

-- Where leaves that are the same have one value, expressions that are the same hold the same.
pub same-holds : {first second : Type 0} (same : first → second → Bool) (v : first → Bool) (w : second → Bool) → ((x : first) (y : second) → same x y ≡ true → v x ≡ w y)
    → (d : Expr first) (e : Expr second) → are_same same d e ≡ true → holds_by v d ≡ holds_by w e
same-holds same v w lead d e is = sym (holds-mapped v (λ b. b) d) ∙ ap (holds_by (λ b. b)) (same-mapped same v w lead d e is) ∙ holds-mapped w (λ b. b) e
