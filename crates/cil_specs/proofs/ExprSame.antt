-- Trees spell one expression of types or of permissions at most.
use Rattle.cil_specs.proofs.Common.{◌≡◌, ◌≢◌, ℕ, inl, inr, List, sym, ◌∙◌, ap, subst, refl, true, codes, bytes_eq, list_any, Place, Word, Trees, none, a_word, a_list, WordExpr, every, named, opposite, both, either, one_of, nothing, elements, operators, IsOperationThen, Expresses, Lists}
use Rattle.cil_specs.proofs.ExprLemmas.{apart, operator_of, ArePair, AreOperands, operation_is, union_is}

-- two words with one place and one text are one
pub same_word : (v w : Word) → v.at ≡ w.at → v.text ≡ w.text → v ≡ w
same_word v w p q = λ i. record { at = p i; text = q i }

-- what a word alone spells
abbrev pub IsWordExpr : Place → List ℕ → WordExpr → Type 0
IsWordExpr at text every = text ≡ codes "all"
IsWordExpr at text (named w) = (at ≡ w.at) × (text ≡ w.text) × (w.text ≢ codes "all")
IsWordExpr at text _ = ⊥

pub word_is : (at : Place) (text : List ℕ) (rest after : Trees) (f : WordExpr) → Expresses (a_word at text rest) f after → IsWordExpr at text f × (rest ≡ after)
word_is at text rest after every (inl h) = (cc h.1, cc h.1)
word_is at text rest after every (inr h) = absurd cc
word_is at text rest after (named w) h = ((cc h.0, cc h.0, h.1), cc h.0)
word_is at text rest after (opposite x) h = absurd cc
word_is at text rest after (both x y) h = absurd cc
word_is at text rest after (either x y) h = absurd cc
word_is at text rest after (one_of x y) h = absurd cc
word_is at text rest after nothing h = absurd cc
word_is at text rest after (elements x more) h = absurd cc

-- what follows an expression that is a list
pub list_rest : (at : Place) (end : ℕ) (items rest after : Trees) (f : WordExpr) → Expresses (a_list at end items rest) f after → rest ≡ after
list_rest at end items rest after every (inl h) = absurd cc
list_rest at end items rest after every (inr h) = cc h.1.2
list_rest at end items rest after (named w) h = absurd cc
list_rest at end items rest after (opposite x) h = cc h.1.1.2
list_rest at end items rest after (both x y) h = cc h.2.1.2
list_rest at end items rest after (either x y) h = cc h.2.1.2
list_rest at end items rest after (one_of x y) h = cc h.2.1.2
list_rest at end items rest after nothing h = cc h.2
list_rest at end items rest after (elements x more) h = cc h.2.2

operation_path : (trees operands rest : Trees) (operator : List ℕ) → (h : IsOperationThen trees operator operands rest) → trees ≡ a_list h.1.0 h.1.1 (a_word h.2 operator operands) rest
operation_path trees operands rest operator h = h.1.2 ∙ ap (λ items. a_list h.1.0 h.1.1 items rest) h.3

-- what trees spell that are an operation
same_operation : (trees operands rest after : Trees) (operator : List ℕ) (f : WordExpr) → list_any (bytes_eq operator) operators ≡ true → IsOperationThen trees operator operands rest → Expresses trees f after
    → (operator ≡ operator_of f) × AreOperands operands f × (rest ≡ after)
same_operation trees operands rest after operator f is h other =
    let moved : Expresses (a_list h.1.0 h.1.1 (a_word h.2 operator operands) rest) f after = subst (λ t. Expresses t f after) (operation_path trees operands rest operator h) other in
    let p = operation_is h.1.0 h.2 h.1.1 operator operands rest after f is moved in
    (p.0, p.1, list_rest h.1.0 h.1.1 (a_word h.2 operator operands) rest after f moved)

is_every : (f : WordExpr) (operands : Trees) → codes "all" ≡ operator_of f → every ≡ f
is_every every operands h = refl
is_every _ operands h = absurd (apart _ _ refl h)

is_opposite : (x f : WordExpr) (operands : Trees) → ((y : WordExpr) → Expresses operands y none → x ≡ y) → codes "not" ≡ operator_of f → AreOperands operands f → opposite x ≡ f
is_opposite x (opposite y) operands same h o = ap opposite (same y o)
is_opposite x _ operands same h o = absurd (apart _ _ refl h)

-- two pairs of expressions that the operands spell are one
abbrev ArePairOnce : Trees → WordExpr → WordExpr → Type 0
ArePairOnce operands x y = (x' y' : WordExpr) → ArePair operands x' y' → (x ≡ x') × (y ≡ y')

is_both : (x y f : WordExpr) (operands : Trees) → ArePairOnce operands x y → codes "and" ≡ operator_of f → AreOperands operands f → both x y ≡ f
is_both x y (both x' y') operands same h o = let p = same x' y' o in λ i. both (p.0 i) (p.1 i)
is_both x y _ operands same h o = absurd (apart _ _ refl h)

is_either : (x y f : WordExpr) (operands : Trees) → ArePairOnce operands x y → codes "or" ≡ operator_of f → AreOperands operands f → either x y ≡ f
is_either x y (either x' y') operands same h o = let p = same x' y' o in λ i. either (p.0 i) (p.1 i)
is_either x y _ operands same h o = absurd (apart _ _ refl h)

is_one_of : (x y f : WordExpr) (operands : Trees) → ArePairOnce operands x y → codes "xor" ≡ operator_of f → AreOperands operands f → one_of x y ≡ f
is_one_of x y (one_of x' y') operands same h o = let p = same x' y' o in λ i. one_of (p.0 i) (p.1 i)
is_one_of x y _ operands same h o = absurd (apart _ _ refl h)

-- each expression of the first of the trees is this one, with this rest
abbrev IsOnly : Trees → WordExpr → Trees → Type 0
IsOnly trees e rest = (f : WordExpr) (after : Trees) → Expresses trees f after → (e ≡ f) × (rest ≡ after)

pair_once : (operands second : Trees) (x y : WordExpr) → IsOnly operands x second → IsOnly second y none → ArePairOnce operands x y
pair_once operands second x y first last x' y' h =
    let p = first x' h.0 h.1 in
    let q = last y' none (subst (λ t. Expresses t y' none) (sym p.1) h.2) in
    (p.0, q.0)

only_every : (trees rest after : Trees) (f : WordExpr) → Expresses trees every rest → Expresses trees f after → (every ≡ f) × (rest ≡ after)
only_every trees rest after f (inl h) other = by f (word_is h.0 (codes "all") rest after f (subst (λ t. Expresses t f after) h.1 other))
  where
    by : (f : WordExpr) → IsWordExpr h.0 (codes "all") f × (rest ≡ after) → (every ≡ f) × (rest ≡ after)
    by every p = (refl, p.1)
    by (named w) p = absurd (p.0.2 (sym p.0.1))
    by _ p = absurd p.0
only_every trees rest after f (inr h) other =
    let p = same_operation trees none rest after (codes "all") f refl h other in
    (is_every f none p.0, p.2)

only_named : (w : Word) (trees rest after : Trees) (f : WordExpr) → Expresses trees (named w) rest → Expresses trees f after → (named w ≡ f) × (rest ≡ after)
only_named w trees rest after f h other = by f (word_is w.at w.text rest after f (subst (λ t. Expresses t f after) h.0 other))
  where
    by : (f : WordExpr) → IsWordExpr w.at w.text f × (rest ≡ after) → (named w ≡ f) × (rest ≡ after)
    by every p = absurd (h.1 p.0)
    by (named v) p = (ap named (same_word w v p.0.0 p.0.1), p.1)
    by _ p = absurd p.0

-- no expression stands where no tree does
pub none_expresses : (e : WordExpr) (rest : Trees) → Expresses none e rest → ⊥
none_expresses every rest (inl h) = absurd cc
none_expresses every rest (inr h) = absurd cc
none_expresses (named w) rest h = absurd cc
none_expresses (opposite x) rest h = absurd cc
none_expresses (both x y) rest h = absurd cc
none_expresses (either x y) rest h = absurd cc
none_expresses (one_of x y) rest h = absurd cc
none_expresses nothing rest h = absurd cc
none_expresses (elements x more) rest h = absurd cc

is_nothing : (f : WordExpr) → Lists none f → nothing ≡ f
is_nothing nothing h = refl
is_nothing (elements x more) h = absurd (none_expresses x h.0 h.1)
is_nothing _ h = absurd h

is_elements : (x more f : WordExpr) (items others : Trees) → Expresses items x others → IsOnly items x others → ((g : WordExpr) → Lists others g → more ≡ g) → Lists items f → elements x more ≡ f
is_elements x more nothing items others some first then h = absurd (none_expresses x others (subst (λ t. Expresses t x others) h some))
is_elements x more (elements y more') items others some first then h =
    let p = first y h.0 h.1 in
    let q = then more' (subst (λ t. Lists t more') (sym p.1) h.2) in
    λ i. elements (p.0 i) (q i)
is_elements x more _ items others some first then h = absurd h

mutual
  pub expresses_same : (e : WordExpr) (trees rest : Trees) → Expresses trees e rest → IsOnly trees e rest
  expresses_same every trees rest h f after other = only_every trees rest after f h other
  expresses_same (named w) trees rest h f after other = only_named w trees rest after f h other
  expresses_same (opposite x) trees rest h f after other =
      let p = same_operation trees h.0 rest after (codes "not") f refl h.1 other in
      (is_opposite x f h.0 (λ y o. (expresses_same x h.0 none h.2 y none o).0) p.0 p.1, p.2)
  expresses_same (both x y) trees rest h f after other =
      let p = same_operation trees h.0 rest after (codes "and") f refl h.2 other in
      (is_both x y f h.0 (pair_once h.0 h.1 x y (expresses_same x h.0 h.1 h.3) (expresses_same y h.1 none h.4)) p.0 p.1, p.2)
  expresses_same (either x y) trees rest h f after other =
      let p = same_operation trees h.0 rest after (codes "or") f refl h.2 other in
      (is_either x y f h.0 (pair_once h.0 h.1 x y (expresses_same x h.0 h.1 h.3) (expresses_same y h.1 none h.4)) p.0 p.1, p.2)
  expresses_same (one_of x y) trees rest h f after other =
      let p = same_operation trees h.0 rest after (codes "xor") f refl h.2 other in
      (is_one_of x y f h.0 (pair_once h.0 h.1 x y (expresses_same x h.0 h.1 h.3) (expresses_same y h.1 none h.4)) p.0 p.1, p.2)
  expresses_same nothing trees rest h f after other =
      let moved = subst (λ t. Expresses t f after) h.2 other in
      (is_nothing f (union_is h.0 h.1 none rest after f tt moved), list_rest h.0 h.1 none rest after f moved)
  expresses_same (elements x more) trees rest h f after other =
      let moved = subst (λ t. Expresses t f after) h.2.2 other in
      (is_elements x more f h.0 h.1 h.4 (expresses_same x h.0 h.1 h.4) (lists_same more h.1 h.5) (union_is h.2.0 h.2.1 h.0 rest after f h.3 moved), list_rest h.2.0 h.2.1 h.0 rest after f moved)

  pub lists_same : (e : WordExpr) (trees : Trees) → Lists trees e → (f : WordExpr) → Lists trees f → e ≡ f
  lists_same nothing trees h f other = is_nothing f (subst (λ t. Lists t f) h other)
  lists_same (elements x more) trees h f other = is_elements x more f trees h.0 h.1 (expresses_same x trees h.0 h.1) (lists_same more h.0 h.2) other
  lists_same _ trees h f other = absurd h
