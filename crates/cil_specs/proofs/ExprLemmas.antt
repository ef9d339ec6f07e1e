-- Expressions of types and of permissions in lists.
use Rattle.cil_specs.proofs.Common.{◌≡◌, ℕ, inl, inr, true, false, List, [], sym, ◌∙◌, subst, refl, codes, bytes_eq, true≢false, bytes_eq-Decides, list_any, Place, Trees, none, a_word, a_string, a_list, WordExpr, every, named, opposite, both, either, one_of, nothing, elements, operators, HasNoOperator, IsOperationThen, Expresses, Lists}

-- the word of an operation, and of none
abbrev pub operator_of : WordExpr → List ℕ
operator_of every = codes "all"
operator_of (named word) = []
operator_of (opposite x) = codes "not"
operator_of (both x y) = codes "and"
operator_of (either x y) = codes "or"
operator_of (one_of x y) = codes "xor"
operator_of nothing = []
operator_of (elements x more) = []

-- the trees are two expressions
abbrev pub ArePair : Trees → WordExpr → WordExpr → Type 0
ArePair operands x y = (second : Trees) × Expresses operands x second × Expresses second y none

-- the trees are the operands of the operation
abbrev pub AreOperands : Trees → WordExpr → Type 0
AreOperands operands every = operands ≡ none
AreOperands operands (named word) = ⊥
AreOperands operands (opposite x) = Expresses operands x none
AreOperands operands (both x y) = ArePair operands x y
AreOperands operands (either x y) = ArePair operands x y
AreOperands operands (one_of x y) = ArePair operands x y
AreOperands operands nothing = ⊥
AreOperands operands (elements x more) = ⊥

operation-parts : (at place : Place) (end : ℕ) (word operator : List ℕ) (operands given rest after : Trees)
    → IsOperationThen (a_list at end (a_word place word operands) rest) operator given after → (word ≡ operator) × (operands ≡ given)
operation-parts at place end word operator operands given rest after h = (cc (h.1.2, h.3), cc (h.1.2, h.3))

-- what a list of an operator and of operands spells
pub operation_is : (at place : Place) (end : ℕ) (word : List ℕ) (operands rest after : Trees) (e : WordExpr) → list_any (bytes_eq word) operators ≡ true
    → Expresses (a_list at end (a_word place word operands) rest) e after → (word ≡ operator_of e) × AreOperands operands e
operation_is at place end word operands rest after every is (inl h) = absurd cc
operation_is at place end word operands rest after every is (inr h) = operation-parts at place end word (codes "all") operands none rest after h
operation_is at place end word operands rest after (named w) is h = absurd cc
operation_is at place end word operands rest after (opposite x) is h =
    let p = operation-parts at place end word (codes "not") operands h.0 rest after h.1 in
    (p.0, subst (λ o. Expresses o x none) (sym p.1) h.2)
operation_is at place end word operands rest after (both x y) is h =
    let p = operation-parts at place end word (codes "and") operands h.0 rest after h.2 in
    (p.0, (h.1, subst (λ o. Expresses o x h.1) (sym p.1) h.3, h.4))
operation_is at place end word operands rest after (either x y) is h =
    let p = operation-parts at place end word (codes "or") operands h.0 rest after h.2 in
    (p.0, (h.1, subst (λ o. Expresses o x h.1) (sym p.1) h.3, h.4))
operation_is at place end word operands rest after (one_of x y) is h =
    let p = operation-parts at place end word (codes "xor") operands h.0 rest after h.2 in
    (p.0, (h.1, subst (λ o. Expresses o x h.1) (sym p.1) h.3, h.4))
operation_is at place end word operands rest after nothing is h = absurd cc
operation_is at place end word operands rest after (elements x more) is h =
    let free : list_any (bytes_eq word) operators ≡ false = subst HasNoOperator (let e : h.0 ≡ a_word place word operands = cc in e) h.3 in absurd cc

-- two words that differ
pub apart : (v w : List ℕ) → bytes_eq v w ≡ false → v ≡ w → ⊥
apart v w differ same = true≢false (sym ((bytes_eq-Decides v w).1 same) ∙ differ)

-- Where operands of an operator fit it in no way, nothing is spelt by the two.

pub no_all : (operands : Trees) (e : WordExpr) → (operands ≡ none → ⊥) → (codes "all" ≡ operator_of e) × AreOperands operands e → ⊥
no_all operands every other h = other h.1
no_all operands _ other h = apart _ _ refl h.0

pub no_not : (operands : Trees) (e : WordExpr) → ((x : WordExpr) → Expresses operands x none → ⊥) → (codes "not" ≡ operator_of e) × AreOperands operands e → ⊥
no_not operands (opposite x) other h = other x h.1
no_not operands _ other h = apart _ _ refl h.0

pub no_and : (operands : Trees) (e : WordExpr) → ((x y : WordExpr) → ArePair operands x y → ⊥) → (codes "and" ≡ operator_of e) × AreOperands operands e → ⊥
no_and operands (both x y) other h = other x y h.1
no_and operands _ other h = apart _ _ refl h.0

pub no_or : (operands : Trees) (e : WordExpr) → ((x y : WordExpr) → ArePair operands x y → ⊥) → (codes "or" ≡ operator_of e) × AreOperands operands e → ⊥
no_or operands (either x y) other h = other x y h.1
no_or operands _ other h = apart _ _ refl h.0

pub no_xor : (operands : Trees) (e : WordExpr) → ((x y : WordExpr) → ArePair operands x y → ⊥) → (codes "xor" ≡ operator_of e) × AreOperands operands e → ⊥
no_xor operands (one_of x y) other h = other x y h.1
no_xor operands _ other h = apart _ _ refl h.0

operation-operator : (at : Place) (end : ℕ) (items : Trees) (operator : List ℕ) (given rest after : Trees) → HasNoOperator items → list_any (bytes_eq operator) operators ≡ true
    → IsOperationThen (a_list at end items rest) operator given after → ⊥
operation-operator at end items operator given rest after free is h =
    let e : items ≡ a_word h.2 operator given = cc (h.1.2, h.3) in
    true≢false (sym is ∙ subst HasNoOperator e free)

-- a list with no operator in front spells its elements
pub union_is : (at : Place) (end : ℕ) (items rest after : Trees) (e : WordExpr) → HasNoOperator items → Expresses (a_list at end items rest) e after → Lists items e
union_is at end items rest after every free (inl h) = absurd cc
union_is at end items rest after every free (inr h) = absurd (operation-operator at end items (codes "all") none rest after free refl h)
union_is at end items rest after (named w) free h = absurd cc
union_is at end items rest after (opposite x) free h = absurd (operation-operator at end items (codes "not") h.0 rest after free refl h.1)
union_is at end items rest after (both x y) free h = absurd (operation-operator at end items (codes "and") h.0 rest after free refl h.2)
union_is at end items rest after (either x y) free h = absurd (operation-operator at end items (codes "or") h.0 rest after free refl h.2)
union_is at end items rest after (one_of x y) free h = absurd (operation-operator at end items (codes "xor") h.0 rest after free refl h.2)
union_is at end items rest after nothing free h = cc
union_is at end items rest after (elements x more) free h = (h.1, subst (λ t. Expresses t x h.1) (let e : h.0 ≡ items = cc in e) h.4, h.5)

-- the elements of a list with no operator in front are spelt by it
pub union_spelt : (at : Place) (end : ℕ) (items rest : Trees) (e : WordExpr) → HasNoOperator items → Lists items e → Expresses (a_list at end items rest) e rest
union_spelt at end items rest nothing free h = (at, end, λ i. a_list at end (h i) rest)
union_spelt at end items rest (elements x more) free h = (items, h.0, (at, end, refl), free, h.1, h.2)
union_spelt at end items rest _ free h = absurd h

-- the expression of an operation is spelt by its operator and operands
pub operation_spelt : (at place : Place) (end : ℕ) (operands rest : Trees) (e : WordExpr) → AreOperands operands e → Expresses (a_list at end (a_word place (operator_of e) operands) rest) e rest
operation_spelt at place end operands rest every h = inr (a_word place (codes "all") operands, (at, end, refl), place, λ i. a_word place (codes "all") (h i))
operation_spelt at place end operands rest (opposite x) h = (operands, (a_word place (codes "not") operands, (at, end, refl), place, refl), h)
operation_spelt at place end operands rest (both x y) h = (operands, h.0, (a_word place (codes "and") operands, (at, end, refl), place, refl), h.1, h.2)
operation_spelt at place end operands rest (either x y) h = (operands, h.0, (a_word place (codes "or") operands, (at, end, refl), place, refl), h.1, h.2)
operation_spelt at place end operands rest (one_of x y) h = (operands, h.0, (a_word place (codes "xor") operands, (at, end, refl), place, refl), h.1, h.2)
operation_spelt at place end operands rest _ h = absurd h

-- a string spells nothing
pub string_spells : (at : Place) (text : List ℕ) (rest after : Trees) (e : WordExpr) → Expresses (a_string at text rest) e after → ⊥
string_spells at text rest after every (inl h) = absurd cc
string_spells at text rest after every (inr h) = absurd cc
string_spells at text rest after (named w) h = absurd cc
string_spells at text rest after (opposite x) h = absurd cc
string_spells at text rest after (both x y) h = absurd cc
string_spells at text rest after (either x y) h = absurd cc
string_spells at text rest after (one_of x y) h = absurd cc
string_spells at text rest after nothing h = absurd cc
string_spells at text rest after (elements x more) h = absurd cc
