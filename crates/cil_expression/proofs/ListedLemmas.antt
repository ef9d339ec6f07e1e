-- Plain lists of leaves.
use Rattle.cil_expression.proofs.Common.{◌≡◌, ℕ, zero, suc, ◌+◌, Bool, true, false, ◌&&◌, ◌||◌, List, [], ◌∷◌, ◌++◌, length, map, refl, sym, ap, ◌∙◌, subst, arith, true≢false, Contains, contains-first, contains-other, Expr, every, named, opposite, both, either, one_of, nothing, elements, leaves, map_leaves, nodes_of, Answers, SetNode, holds_by, all_same, same_node, are_same}
use Rattle.std.proofs.Common.{◌<◌, ◌≤◌, ◌-◌}
use Rattle.cil_parse.specs.declared.row.SetNode.TheVariants as nodes
use Rattle.std.specs.List.{list_any}
use Rattle.cil_specs.specs.Expr.{listed}
use Rattle.cil_parse.specs.Forms.{is_plain}
use Rattle.cil_expression.specs.Listed.{list_nodes}
use Rattle.cil_expression.proofs.SameExprLemmas.{nodes-are}

pub leaves-listed : {leaf : Type 0} (l : List leaf) → leaves (listed l) ≡ l
leaves-listed [] = refl
leaves-listed (x ∷ xs) = ap (λ l. x ∷ l) (leaves-listed xs)

-- Other leaves make it the list of those.
pub listed-mapped : {leaf other : Type 0} (f : leaf → other) (l : List leaf) → map_leaves f (listed l) ≡ listed (map f l)
listed-mapped f [] = refl
listed-mapped f (x ∷ xs) = ap (elements (named (f x))) (listed-mapped f xs)

-- It holds what one of its leaves does.
pub holds-listed : {leaf : Type 0} (value : leaf → Bool) (l : List leaf) → holds_by value (listed l) ≡ list_any value l
holds-listed value [] = refl
holds-listed value (x ∷ xs) = ap (λ b. value x || b) (holds-listed value xs)

-- An expression that is a plain list is that of its leaves.
pub plain-listed : {leaf : Type 0} (e : Expr leaf) → is_plain e ≡ true → e ≡ listed (leaves e)
plain-listed nothing is = refl
plain-listed (elements (named l) more) is = ap (elements (named l)) (plain-listed more is)
plain-listed _ is = absurd (true≢false (sym is))

-- It is one whatever its leaves are.
pub plain-mapped : {leaf other : Type 0} (f : leaf → other) (e : Expr leaf) → is_plain (map_leaves f e) ≡ is_plain e
plain-mapped f nothing = refl
plain-mapped f (elements (named l) more) = plain-mapped f more
plain-mapped f _ = refl

-- A plain list of leaves is one.
pub listed-plain : {leaf : Type 0} (l : List leaf) → is_plain (listed l) ≡ true
listed-plain [] = refl
listed-plain (x ∷ xs) = listed-plain xs

pub listed-one : {leaf : Type 0} (e : Expr leaf) (l : List leaf) → e ≡ listed l → is_plain e ≡ true
listed-one e l is = ap is_plain is ∙ listed-plain l

-- Its nodes follow from how many leaves these are.
pub nodes-listed : {leaf : Type 0} (l : List leaf) → nodes_of (listed l) ≡ list_nodes (length l)
nodes-listed [] = refl
nodes-listed (x ∷ xs) = ap (λ m. nodes.Element ∷ nodes.Name ∷ m) (nodes-listed xs)

-- whether nodes begin as those of a list do
begins-list : List SetNode → Bool
begins-list (nodes.Nothing ∷ more) = true
begins-list (nodes.Element ∷ more) = true
begins-list _ = false

-- whether a name stands second
second-named : List SetNode → Bool
second-named (node ∷ nodes.Name ∷ more) = true
second-named _ = false

not-listed : {leaf : Type 0} (spelling : List SetNode) (l : List leaf) → begins-list spelling ≡ false → spelling ≡ nodes_of (listed l) → ⊥
unfolding begins-list
not-listed spelling [] other is = true≢false (ap begins-list (sym is) ∙ other)
not-listed spelling (x ∷ xs) other is = true≢false (ap begins-list (sym is) ∙ other)

not-named : {leaf : Type 0} (spelling : List SetNode) (x : leaf) (xs : List leaf) → second-named spelling ≡ false → spelling ≡ nodes_of (listed (x ∷ xs)) → ⊥
unfolding second-named
not-named spelling x xs other is = true≢false (ap second-named (sym is) ∙ other)

-- An expression that has the nodes of a plain list is one.
pub nodes-plain : {leaf other : Type 0} (e : Expr leaf) (l : List other) → nodes_of e ≡ nodes_of (listed l) → is_plain e ≡ true
unfolding begins-list second-named
nodes-plain nothing l n = refl
nodes-plain every l n = absurd (not-listed (nodes.All ∷ []) l refl n)
nodes-plain (named w) l n = absurd (not-listed (nodes.Name ∷ []) l refl n)
nodes-plain (opposite x) l n = absurd (not-listed (nodes.Not ∷ nodes_of x) l refl n)
nodes-plain (both x y) l n = absurd (not-listed (nodes.And ∷ (nodes_of x ++ nodes_of y)) l refl n)
nodes-plain (either x y) l n = absurd (not-listed (nodes.Or ∷ (nodes_of x ++ nodes_of y)) l refl n)
nodes-plain (one_of x y) l n = absurd (not-listed (nodes.Xor ∷ (nodes_of x ++ nodes_of y)) l refl n)
nodes-plain (elements x more) [] n = absurd (never n)
  where
    never : nodes.Element ∷ (nodes_of x ++ nodes_of more) ≡ nodes.Nothing ∷ [] → ⊥
    never e = cc
nodes-plain (elements (named w) more) (y ∷ ys) n = nodes-plain more ys (tails n)
  where
    tails : nodes.Element ∷ nodes.Name ∷ nodes_of more ≡ nodes.Element ∷ nodes.Name ∷ nodes_of (listed ys) → nodes_of more ≡ nodes_of (listed ys)
    tails e = cc
nodes-plain (elements every more) (y ∷ ys) n = absurd (not-named (nodes.Element ∷ nodes.All ∷ nodes_of more) y ys refl n)
nodes-plain (elements nothing more) (y ∷ ys) n = absurd (not-named (nodes.Element ∷ nodes.Nothing ∷ nodes_of more) y ys refl n)
nodes-plain (elements (opposite x) more) (y ∷ ys) n = absurd (not-named (nodes.Element ∷ nodes.Not ∷ (nodes_of x ++ nodes_of more)) y ys refl n)
nodes-plain (elements (both x z) more) (y ∷ ys) n = absurd (not-named (nodes.Element ∷ nodes.And ∷ ((nodes_of x ++ nodes_of z) ++ nodes_of more)) y ys refl n)
nodes-plain (elements (either x z) more) (y ∷ ys) n = absurd (not-named (nodes.Element ∷ nodes.Or ∷ ((nodes_of x ++ nodes_of z) ++ nodes_of more)) y ys refl n)
nodes-plain (elements (one_of x z) more) (y ∷ ys) n = absurd (not-named (nodes.Element ∷ nodes.Xor ∷ ((nodes_of x ++ nodes_of z) ++ nodes_of more)) y ys refl n)
nodes-plain (elements (elements x z) more) (y ∷ ys) n = absurd (not-named (nodes.Element ∷ nodes.Element ∷ ((nodes_of x ++ nodes_of z) ++ nodes_of more)) y ys refl n)

-- Plain lists are the same where their leaves are.
pub same-listed : {one two : Type 0} (same : one → two → Bool) (l : List one) (m : List two) → all_same same l m ≡ are_same same (listed l) (listed m)
same-listed {one = one} {two = two} same l m = sym (with-nodes l m) ∙ (λ i. all_same same_node (nodes_of (listed l)) (nodes_of (listed m)) && all_same same (sym (leaves-listed l) i) (sym (leaves-listed m) i))
  where
    none : (b : Bool) → (b && false) ≡ false
    none true = refl
    none false = refl

    first : (b p n : Bool) → (n && b) ≡ b → (n && (p && b)) ≡ (p && b)
    first b true n e = e
    first b false n e = none n

    with-nodes : (xs : List one) (ys : List two) → (all_same same_node (nodes_of (listed xs)) (nodes_of (listed ys)) && all_same same xs ys) ≡ all_same same xs ys
    with-nodes [] [] = refl
    with-nodes [] (y ∷ ys) = refl
    with-nodes (x ∷ xs) [] = refl
    with-nodes (x ∷ xs) (y ∷ ys) = first (all_same same xs ys) (same x y) (all_same same_node (nodes_of (listed xs)) (nodes_of (listed ys))) (with-nodes xs ys)

-- Expressions of different nodes aren't the same.
other-nodes : {first second : Type 0} (same : first → second → Bool) (d : Expr first) (e : Expr second) → (nodes_of d ≡ nodes_of e → ⊥) → are_same same d e ≡ false
other-nodes same d e differ = by (all_same same_node (nodes_of d) (nodes_of e)) refl
  where
    by : (b : Bool) → all_same same_node (nodes_of d) (nodes_of e) ≡ b → are_same same d e ≡ false
    by true n = absurd (differ (nodes-are (nodes_of d) (nodes_of e) n))
    by false n = ap (λ b. b && all_same same (leaves d) (leaves e)) n

-- A plain list and an expression that is none aren't the same.
pub plain-differs : {first second : Type 0} (same : first → second → Bool) (d : Expr first) (e : Expr second) → is_plain d ≡ true → is_plain e ≡ false → are_same same d e ≡ false
plain-differs same d e plain other =
    other-nodes same d e (λ n. true≢false (sym (nodes-plain e (leaves d) (sym n ∙ ap nodes_of (plain-listed d plain))) ∙ other))

pub differs-plain : {first second : Type 0} (same : first → second → Bool) (d : Expr first) (e : Expr second) → is_plain d ≡ false → is_plain e ≡ true → are_same same d e ≡ false
differs-plain same d e other plain =
    other-nodes same d e (λ n. true≢false (sym (nodes-plain d (leaves e) (n ∙ ap nodes_of (plain-listed e plain))) ∙ other))

-- The nodes and the leaves of an expression that aren't those of a list are of one that is no plain list.
pub no-list : {leaf : Type 0} (spelling : List SetNode) (names : List leaf) (told : Bool) (e : Expr leaf) → spelling ≡ nodes_of e → names ≡ leaves e
    → (spelling ≡ list_nodes (length names) → told ≡ true) → told ≡ false → is_plain e ≡ false
no-list spelling names told e n l tells none = by (is_plain e) refl
  where
    by : (b : Bool) → is_plain e ≡ b → is_plain e ≡ false
    by true plain =
        absurd (true≢false (sym (tells (n ∙ ap nodes_of (plain-listed e plain) ∙ nodes-listed (leaves e) ∙ ap (λ m. list_nodes (length m)) (sym l))) ∙ none))
    by false other = other

-- what is left of nodes decides whether they are those of a list
pub GoesTo : List SetNode → ℕ → List SetNode → ℕ → Type 0
GoesTo spelling names left rest = (left ≡ list_nodes rest → spelling ≡ list_nodes names) × (spelling ≡ list_nodes names → left ≡ list_nodes rest)

pub goes-first-node : (spelling : List SetNode) (names : ℕ) → GoesTo spelling names spelling (names - 0)
unfolding GoesTo
goes-first-node spelling names =
    let all : names - 0 ≡ names = omega arith in
    let same : list_nodes (names - 0) ≡ list_nodes names = ap list_nodes all in
    (λ e. e ∙ same, λ e. e ∙ sym same)

one-less : (names k : ℕ) → k < names → list_nodes (names - k) ≡ nodes.Element ∷ nodes.Name ∷ list_nodes (names - (k + 1))
one-less names k less = ap list_nodes next
  where
    next : names - k ≡ suc (names - (k + 1))
    next = omega (arith, less)

pub goes-next-node : (spelling left behind : List SetNode) (names k : ℕ) → k < names → GoesTo spelling names left (names - k) → left ≡ nodes.Element ∷ nodes.Name ∷ behind
    → GoesTo spelling names behind (names - (k + 1))
unfolding GoesTo
goes-next-node spelling left behind names k less goes is =
    let more = one-less names k less in (
      λ e. goes.0 (is ∙ ap (λ m. nodes.Element ∷ nodes.Name ∷ m) e ∙ sym more),
      λ e. tails (sym is ∙ goes.1 e ∙ more),
    )
  where
    tails : nodes.Element ∷ nodes.Name ∷ behind ≡ nodes.Element ∷ nodes.Name ∷ list_nodes (names - (k + 1)) → behind ≡ list_nodes (names - (k + 1))
    tails e = cc

pub goes-nowhere : (spelling left : List SetNode) (names k : ℕ) → k < names → GoesTo spelling names left (names - k)
    → ((more : List SetNode) → left ≡ nodes.Element ∷ nodes.Name ∷ more → ⊥) → spelling ≡ list_nodes names → ⊥
unfolding GoesTo
goes-nowhere spelling left names k less goes none is = none (list_nodes (names - (k + 1))) (goes.1 is ∙ one-less names k less)

pub goes-to-end : (spelling left : List SetNode) (names k : ℕ) → names ≤ k → GoesTo spelling names left (names - k) → (left ≡ list_nodes 0 → spelling ≡ list_nodes names) × (spelling ≡ list_nodes names → left ≡ list_nodes 0)
unfolding GoesTo
goes-to-end spelling left names k past goes =
    let all : names - k ≡ 0 = omega (arith, past) in
    let none : list_nodes (names - k) ≡ list_nodes 0 = ap list_nodes all in
    (λ e. goes.0 (e ∙ sym none), λ e. goes.1 e ∙ none)

-- what is left of some names decides whether one of them holds something
pub HoldsOn : {leaf : Type 0} → (leaf → Bool → Type 0) → List leaf → List leaf → Type 0
HoldsOn {leaf} post names left = (value : leaf → Bool) → Answers post (λ e. Contains names e) value
    → (list_any value left ≡ list_any value names) × Answers post (λ e. Contains left e) value

pub on-first-name : {leaf : Type 0} (post : leaf → Bool → Type 0) (names : List leaf) → HoldsOn post names names
unfolding HoldsOn
on-first-name post names value answers = (refl, answers)

-- the answer for the next name is its value
name-told : {leaf : Type 0} (post : leaf → Bool → Type 0) (left : List leaf) (x : leaf) (xs : List leaf) (told : Bool) (value : leaf → Bool)
    → left ≡ x ∷ xs → post x told → Answers post (λ e. Contains left e) value → told ≡ value x
name-told post left x xs told value split is answers = answers x told (subst (λ l. Contains l x) (sym split) (contains-first x xs)) is

-- The next name doesn't hold it.
pub on-next-name : {leaf : Type 0} (post : leaf → Bool → Type 0) (names left : List leaf) (x : leaf) (xs : List leaf)
    → HoldsOn post names left → left ≡ x ∷ xs → post x false → HoldsOn post names xs
unfolding HoldsOn
on-next-name post names left x xs goes split told value answers =
    let g = goes value answers in
    let same = name-told post left x xs false value split told g.1 in (
      ap (λ b. b || list_any value xs) same ∙ ap (list_any value) (sym split) ∙ g.0,
      λ l r c. g.1 l r (subst (λ m. Contains m l) (sym split) (contains-other x xs l c)),
    )

-- It holds it.
pub on-found-name : {leaf : Type 0} (post : leaf → Bool → Type 0) (names left : List leaf) (x : leaf) (xs : List leaf)
    → HoldsOn post names left → left ≡ x ∷ xs → post x true
    → (value : leaf → Bool) → Answers post (λ e. Contains names e) value → true ≡ list_any value names
unfolding HoldsOn
on-found-name post names left x xs goes split told value answers =
    let g = goes value answers in
    let same = name-told post left x xs true value split told g.1 in
    ap (λ b. b || list_any value xs) same ∙ ap (list_any value) (sym split) ∙ g.0

-- None is left.
pub on-last-name : {leaf : Type 0} (post : leaf → Bool → Type 0) (names left : List leaf) → HoldsOn post names left → length left ≡ 0
    → (value : leaf → Bool) → Answers post (λ e. Contains names e) value → false ≡ list_any value names
unfolding HoldsOn
on-last-name {leaf = leaf} post names left goes none value answers = ends left none ∙ (goes value answers).0
  where
    ends : (xs : List leaf) → length xs ≡ 0 → false ≡ list_any value xs
    ends [] e = refl
    ends (x ∷ xs) e = absurd (omega (arith, e))
