-- Names that are the same in pairs.
use Rattle.cil_expression.proofs.Common.{◌≡◌, Bool, true, false, ◌&&◌, List, [], ◌∷◌, Contains, length, ◌==◌, refl, sym, ap, ◌∙◌, subst, arith, SetNode, contains-first, contains-other, all_same, same_node, AnswersPairs}
use Rattle.std.proofs.Math.Dec.{eqb-suc-zero}
use lib.Pointwise.{pointwise}
use Rattle.cil_parse.specs.declared.row.SetNode.TheVariants as nodes
use Rattle.cil_parse.specs.contracts.row.SetNodePartialEq.TheImpl as derived

-- what is left of two lists decides whether they are the same
pub GoesOn : {leaf : Type 0} → (leaf → leaf → Bool → Type 0) → List leaf → List leaf → List leaf → List leaf → Type 0
GoesOn {leaf} post these those left right = (pairs : leaf → leaf → Bool) → AnswersPairs post these those pairs
    → (all_same pairs left right ≡ all_same pairs these those) × AnswersPairs post left right pairs

pub on-first : {leaf : Type 0} (post : leaf → leaf → Bool → Type 0) (these those : List leaf) → GoesOn post these those these those
unfolding GoesOn
on-first post these those pairs answers = (refl, answers)

-- the next two were told to be the same or not
pub on-next : {leaf : Type 0} (post : leaf → leaf → Bool → Type 0) (these those left right : List leaf) (x y : leaf) (xs ys : List leaf)
    → GoesOn post these those left right → left ≡ x ∷ xs → right ≡ y ∷ ys → post x y true → GoesOn post these those xs ys
unfolding GoesOn
on-next post these those left right x y xs ys goes split other told pairs answers =
    let g = goes pairs answers in
    let here : AnswersPairs post (x ∷ xs) (y ∷ ys) pairs = λ a b r ca cb. g.1 a b r (subst (λ l. Contains l a) (sym split) ca) (subst (λ l. Contains l b) (sym other) cb) in
    let same : true ≡ pairs x y = here x y true (contains-first x xs) (contains-first y ys) told in
    (ap (λ b. b && all_same pairs xs ys) same ∙ (λ i. all_same pairs (sym split i) (sym other i)) ∙ g.0, λ a b r ca cb. here a b r (contains-other x xs a ca) (contains-other y ys b cb))

pub on-differ : {leaf : Type 0} (post : leaf → leaf → Bool → Type 0) (these those left right : List leaf) (x y : leaf) (xs ys : List leaf)
    → GoesOn post these those left right → left ≡ x ∷ xs → right ≡ y ∷ ys → post x y false
    → (pairs : leaf → leaf → Bool) → AnswersPairs post these those pairs → false ≡ all_same pairs these those
unfolding GoesOn
on-differ post these those left right x y xs ys goes split other told pairs answers =
    let g = goes pairs answers in
    let here : AnswersPairs post (x ∷ xs) (y ∷ ys) pairs = λ a b r ca cb. g.1 a b r (subst (λ l. Contains l a) (sym split) ca) (subst (λ l. Contains l b) (sym other) cb) in
    let same : false ≡ pairs x y = here x y false (contains-first x xs) (contains-first y ys) told in
    ap (λ b. b && all_same pairs xs ys) same ∙ (λ i. all_same pairs (sym split i) (sym other i)) ∙ g.0

pub on-shorter : {leaf : Type 0} (post : leaf → leaf → Bool → Type 0) (these those left right : List leaf) (x : leaf) (xs : List leaf)
    → GoesOn post these those left right → left ≡ x ∷ xs → length right ≡ 0
    → (pairs : leaf → leaf → Bool) → AnswersPairs post these those pairs → false ≡ all_same pairs these those
unfolding GoesOn
on-shorter {leaf = leaf} post these those left right x xs goes split none pairs answers = longer right none ∙ (λ i. all_same pairs (sym split i) right) ∙ (goes pairs answers).0
  where
    longer : (ys : List leaf) → length ys ≡ 0 → false ≡ all_same pairs (x ∷ xs) ys
    longer [] e = refl
    longer (y ∷ ys) e = absurd (omega (arith, e))

pub on-end : {leaf : Type 0} (post : leaf → leaf → Bool → Type 0) (these those left right : List leaf) (empty : Bool)
    → GoesOn post these those left right → length left ≡ 0 → empty ≡ (length right == 0)
    → (pairs : leaf → leaf → Bool) → AnswersPairs post these those pairs → empty ≡ all_same pairs these those
unfolding GoesOn
on-end {leaf = leaf} post these those left right empty goes none e pairs answers = e ∙ ends left right none ∙ (goes pairs answers).0
  where
    ends : (xs ys : List leaf) → length xs ≡ 0 → (length ys == 0) ≡ all_same pairs xs ys
    ends [] [] e = refl
    ends [] (y ∷ ys) e = eqb-suc-zero (length ys)
    ends (x ∷ xs) ys e = absurd (omega (arith, e))

-- the comparison of nodes that is derived
equal-nodes : (x y : SetNode) → derived.eq-value.it x y ≡ same_node x y
equal-nodes nodes.All nodes.All = refl
equal-nodes nodes.Name nodes.Name = refl
equal-nodes nodes.Not nodes.Not = refl
equal-nodes nodes.And nodes.And = refl
equal-nodes nodes.Or nodes.Or = refl
equal-nodes nodes.Xor nodes.Xor = refl
equal-nodes nodes.Nothing nodes.Nothing = refl
equal-nodes nodes.Element nodes.Element = refl
equal-nodes _ _ = refl

pub pointwise-nodes : (xs ys : List SetNode) → pointwise derived.eq-value.it xs ys ≡ all_same same_node xs ys
pointwise-nodes [] [] = refl
pointwise-nodes [] (y ∷ ys) = refl
pointwise-nodes (x ∷ xs) [] = refl
pointwise-nodes (x ∷ xs) (y ∷ ys) = λ i. equal-nodes x y i && pointwise-nodes xs ys i
