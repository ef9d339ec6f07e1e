-- What an expression holds goes by the values of its leaves.
use Rattle.cil_expression.proofs.Common.{◌≡◌, ℕ, Bool, false, not, ◌&&◌, ◌||◌, List, [], Contains, refl, ap, ◌∙◌, Expr, every, named, opposite, both, either, one_of, nothing, elements, leaves, map_leaves, contains-first, holds_by}
use Rattle.std.proofs.lemmas.List.Elements.{Contains-append_left, Contains-append_right}
use Rattle.cil_specs.specs.Expr.{differ}

-- An expression with other leaves holds what it holds by the values of those.
pub holds-mapped : {leaf other : Type 0} (f : leaf → other) (value : other → Bool) (e : Expr leaf) → holds_by value (map_leaves f e) ≡ holds_by (λ l. value (f l)) e
holds-mapped f value every = refl
holds-mapped f value (named l) = refl
holds-mapped f value (opposite x) = ap not (holds-mapped f value x)
holds-mapped f value (both x y) = λ i. holds-mapped f value x i && holds-mapped f value y i
holds-mapped f value (either x y) = λ i. holds-mapped f value x i || holds-mapped f value y i
holds-mapped f value (one_of x y) = λ i. differ (holds-mapped f value x i) (holds-mapped f value y i)
holds-mapped f value nothing = refl
holds-mapped f value (elements x more) = λ i. holds-mapped f value x i || holds-mapped f value more i

-- Two values that agree at the leaves give the same.
pub holds-agree : {leaf : Type 0} (e : Expr leaf) (v w : leaf → Bool) → ((l : leaf) → Contains (leaves e) l → v l ≡ w l) → holds_by v e ≡ holds_by w e
holds-agree every v w h = refl
holds-agree (named l) v w h = h l (contains-first l [])
holds-agree (opposite x) v w h = ap not (holds-agree x v w h)
holds-agree (both x y) v w h =
    let a = holds-agree x v w (λ l c. h l (Contains-append_left (leaves x) (leaves y) l c)) in
    let b = holds-agree y v w (λ l c. h l (Contains-append_right (leaves x) (leaves y) l c)) in
    λ i. a i && b i
holds-agree (either x y) v w h =
    let a = holds-agree x v w (λ l c. h l (Contains-append_left (leaves x) (leaves y) l c)) in
    let b = holds-agree y v w (λ l c. h l (Contains-append_right (leaves x) (leaves y) l c)) in
    λ i. a i || b i
holds-agree (one_of x y) v w h =
    let a = holds-agree x v w (λ l c. h l (Contains-append_left (leaves x) (leaves y) l c)) in
    let b = holds-agree y v w (λ l c. h l (Contains-append_right (leaves x) (leaves y) l c)) in
    λ i. differ (a i) (b i)
holds-agree nothing v w h = refl
holds-agree (elements x more) v w h =
    let a = holds-agree x v w (λ l c. h l (Contains-append_left (leaves x) (leaves more) l c)) in
    let b = holds-agree more v w (λ l c. h l (Contains-append_right (leaves x) (leaves more) l c)) in
    λ i. a i || b i

-- An expression that holds nothing where none of its leaves does holds only what one of its leaves holds.
pub holds-bound : {leaf : Type 0} (e : Expr leaf) (v : leaf → Bool) → holds_by (λ l. false) e ≡ false → ((l : leaf) → Contains (leaves e) l → v l ≡ false) → holds_by v e ≡ false
holds-bound e v none at = holds-agree e v (λ l. false) at ∙ none
