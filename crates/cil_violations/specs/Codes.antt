-- The code of a rule's permissions, by which a proof tells two rules apart; that of an expression of names is its nodes, each behind those
-- of its operands.
use Rattle.std.specs.Prelude.{◌≡◌, ℕ, zero, suc, List, [], ◌∷◌, refl}
use Rattle.std.specs.Coded.{Coded, code_by, coded_ℕ, coded_list, coded×}
use Rattle.cil_specs.specs.Expr.{Expr, every, named, opposite, both, either, one_of, nothing, elements}
use Rattle.cil_specs.specs.Rule.{ResolvedPermissions, of_class, of_set}
use mathlib.Core.Path.{◌∙◌, ap}

-- a node: what it is, and the name of a leaf
abbrev Node : Type 0
Node = ℕ × List ℕ

-- the nodes of an expression, and then the rest
abbrev nodes : Expr (List ℕ) → List Node → List Node
nodes every rest = (0, []) ∷ rest
nodes (named name) rest = (1, name) ∷ rest
nodes (opposite x) rest = nodes x ((2, []) ∷ rest)
nodes (both x y) rest = nodes x (nodes y ((3, []) ∷ rest))
nodes (either x y) rest = nodes x (nodes y ((4, []) ∷ rest))
nodes (one_of x y) rest = nodes x (nodes y ((5, []) ∷ rest))
nodes nothing rest = (6, []) ∷ rest
nodes (elements x more) rest = nodes x (nodes more ((7, []) ∷ rest))

-- what a node makes of the expressions in front of it, the last one first
abbrev applied : ℕ → List ℕ → List (Expr (List ℕ)) → List (Expr (List ℕ))
applied zero name stack = every ∷ stack
applied (suc zero) name stack = named name ∷ stack
applied (suc (suc zero)) name (x ∷ stack) = opposite x ∷ stack
applied (suc (suc (suc zero))) name (y ∷ x ∷ stack) = both x y ∷ stack
applied (suc (suc (suc (suc zero)))) name (y ∷ x ∷ stack) = either x y ∷ stack
applied (suc (suc (suc (suc (suc zero))))) name (y ∷ x ∷ stack) = one_of x y ∷ stack
applied (suc (suc (suc (suc (suc (suc zero)))))) name stack = nothing ∷ stack
applied (suc (suc (suc (suc (suc (suc (suc n))))))) name (y ∷ x ∷ stack) = elements x y ∷ stack
applied _ name stack = stack

abbrev all_applied : List Node → List (Expr (List ℕ)) → List (Expr (List ℕ))
all_applied [] stack = stack
all_applied (node ∷ more) stack = all_applied more (applied node.0 node.1 stack)

abbrev first : List (Expr (List ℕ)) → Expr (List ℕ)
first [] = nothing
first (e ∷ stack) = e

-- applied to its nodes, they give the expression
pub nodes-applied : (e : Expr (List ℕ)) (rest : List Node) (stack : List (Expr (List ℕ))) → all_applied (nodes e rest) stack ≡ all_applied rest (e ∷ stack)
nodes-applied every rest stack = refl
nodes-applied (named name) rest stack = refl
nodes-applied (opposite x) rest stack = nodes-applied x ((2, []) ∷ rest) stack
nodes-applied (both x y) rest stack = nodes-applied x (nodes y ((3, []) ∷ rest)) stack ∙ nodes-applied y ((3, []) ∷ rest) (x ∷ stack)
nodes-applied (either x y) rest stack = nodes-applied x (nodes y ((4, []) ∷ rest)) stack ∙ nodes-applied y ((4, []) ∷ rest) (x ∷ stack)
nodes-applied (one_of x y) rest stack = nodes-applied x (nodes y ((5, []) ∷ rest)) stack ∙ nodes-applied y ((5, []) ∷ rest) (x ∷ stack)
nodes-applied nothing rest stack = refl
nodes-applied (elements x more) rest stack = nodes-applied x (nodes more ((7, []) ∷ rest)) stack ∙ nodes-applied more ((7, []) ∷ rest) (x ∷ stack)

abbrev pub coded_expr : Coded (Expr (List ℕ))
coded_expr =
    code_by (List Node) (coded_list (coded× coded_ℕ (coded_list coded_ℕ))) (λ e. nodes e []) (λ list. first (all_applied list [])) (λ e. ap first (nodes-applied e [] []))

-- what permissions are of: a class and an expression, or a set
abbrev Parts : Type 0
Parts = ℕ × (List ℕ × Expr (List ℕ))

abbrev parts : ResolvedPermissions → Parts
parts (of_class the_class e) = (0, (the_class, e))
parts (of_set set) = (1, (set, nothing))

abbrev of_parts : Parts → ResolvedPermissions
of_parts (zero, (name, e)) = of_class name e
of_parts (suc n, (name, e)) = of_set name

-- and they give it back
pub parts-back : (p : ResolvedPermissions) → of_parts (parts p) ≡ p
parts-back (of_class the_class e) = refl
parts-back (of_set set) = refl

abbrev pub coded_permissions : Coded ResolvedPermissions
coded_permissions = code_by Parts (coded× coded_ℕ (coded× (coded_list coded_ℕ) coded_expr)) parts of_parts parts-back
