-- Expressions of types and of permissions, and the trees that spell them.
use Rattle.std.specs.Prelude.{◌≡◌, ◌≢◌, ℕ, ◌⊎◌, Bool, true, false, not, ◌&&◌, ◌||◌, List, [], ◌∷◌, ◌++◌, codes, bytes_eq}
use Rattle.std.specs.List.{list_any}
use Rattle.cil_specs.specs.Place.{Place}
use Rattle.cil_specs.specs.Names.{Word}
use Rattle.cil_specs.specs.Trees.{Trees, none, a_word, a_string, a_list}

-- Expressions over leaves: words as written, or what they lead to. A list of elements is its first element and the others, or nothing.
pub data Expr (leaf : Type 0) : Type 0 where
  every : Expr leaf
  named : leaf → Expr leaf
  opposite : Expr leaf → Expr leaf
  both : Expr leaf → Expr leaf → Expr leaf
  either : Expr leaf → Expr leaf → Expr leaf
  one_of : Expr leaf → Expr leaf → Expr leaf
  nothing : Expr leaf
  elements : Expr leaf → Expr leaf → Expr leaf

-- an expression as written
abbrev pub WordExpr : Type 0
WordExpr = Expr Word

-- the leaves of an expression in their order
abbrev pub leaves : {leaf : Type 0} → Expr leaf → List leaf
leaves every = []
leaves (named l) = l ∷ []
leaves (opposite x) = leaves x
leaves (both x y) = leaves x ++ leaves y
leaves (either x y) = leaves x ++ leaves y
leaves (one_of x y) = leaves x ++ leaves y
leaves nothing = []
leaves (elements x more) = leaves x ++ leaves more

-- the expression with other leaves in the place of its own
abbrev pub map_leaves : {leaf other : Type 0} → (leaf → other) → Expr leaf → Expr other
map_leaves f every = every
map_leaves f (named l) = named (f l)
map_leaves f (opposite x) = opposite (map_leaves f x)
map_leaves f (both x y) = both (map_leaves f x) (map_leaves f y)
map_leaves f (either x y) = either (map_leaves f x) (map_leaves f y)
map_leaves f (one_of x y) = one_of (map_leaves f x) (map_leaves f y)
map_leaves f nothing = nothing
map_leaves f (elements x more) = elements (map_leaves f x) (map_leaves f more)

-- whether exactly one of two holds
abbrev pub differ : Bool → Bool → Bool
differ true b = not b
differ false b = b

-- Whether an expression holds a thing, where a test tells which of its leaves do: all holds each; not, and, or and xor go by their
-- operands; a list without an operator holds what one of its elements does.
abbrev pub holds_by : {leaf : Type 0} → (leaf → Bool) → Expr leaf → Bool
holds_by test every = true
holds_by test (named l) = test l
holds_by test (opposite x) = not (holds_by test x)
holds_by test (both x y) = holds_by test x && holds_by test y
holds_by test (either x y) = holds_by test x || holds_by test y
holds_by test (one_of x y) = differ (holds_by test x) (holds_by test y)
holds_by test nothing = false
holds_by test (elements x more) = holds_by test x || holds_by test more

-- a plain list of these leaves
abbrev pub listed : {leaf : Type 0} → List leaf → Expr leaf
listed [] = nothing
listed (l ∷ more) = elements (named l) (listed more)

-- the words that are operators where they stand first in a list
abbrev pub operators : List (List ℕ)
operators = codes "and" ∷ codes "or" ∷ codes "xor" ∷ codes "not" ∷ codes "all" ∷ []

-- the first of the trees is no operator
abbrev pub HasNoOperator : Trees → Type 0
HasNoOperator none = Unit {0}
HasNoOperator (a_word at text rest) = list_any (bytes_eq text) operators ≡ false
HasNoOperator (a_string at text rest) = Unit {0}
HasNoOperator (a_list at end items rest) = Unit {0}

-- the trees are a list of these trees, and then the rest
abbrev pub IsListThen : Trees → Trees → Trees → Type 0
IsListThen trees items rest = (at : Place) × (end : ℕ) × (trees ≡ a_list at end items rest)

-- the trees are a list of this word and these trees, and then the rest
abbrev pub IsOperationThen : Trees → List ℕ → Trees → Trees → Type 0
IsOperationThen trees operator operands rest = (items : Trees) × IsListThen trees items rest × (at : Place) × (items ≡ a_word at operator operands)

abbrev mutual
  -- the first of the trees spells the expression, and the rest follows
  pub Expresses : Trees → WordExpr → Trees → Type 0
  Expresses trees every rest = ((at : Place) × (trees ≡ a_word at (codes "all") rest)) ⊎ IsOperationThen trees (codes "all") none rest
  Expresses trees (named word) rest = (trees ≡ a_word word.at word.text rest) × (word.text ≢ codes "all")
  Expresses trees (opposite x) rest = (operands : Trees) × IsOperationThen trees (codes "not") operands rest × Expresses operands x none
  Expresses trees (both x y) rest = (operands second : Trees) × IsOperationThen trees (codes "and") operands rest × Expresses operands x second × Expresses second y none
  Expresses trees (either x y) rest = (operands second : Trees) × IsOperationThen trees (codes "or") operands rest × Expresses operands x second × Expresses second y none
  Expresses trees (one_of x y) rest = (operands second : Trees) × IsOperationThen trees (codes "xor") operands rest × Expresses operands x second × Expresses second y none
  Expresses trees nothing rest = IsListThen trees none rest
  Expresses trees (elements x more) rest = (items others : Trees) × IsListThen trees items rest × HasNoOperator items × Expresses items x others × Lists others more

  -- the trees spell the elements of the expression one after the other
  pub Lists : Trees → WordExpr → Type 0
  Lists trees every = ⊥
  Lists trees (named word) = ⊥
  Lists trees (opposite x) = ⊥
  Lists trees (both x y) = ⊥
  Lists trees (either x y) = ⊥
  Lists trees (one_of x y) = ⊥
  Lists trees nothing = trees ≡ none
  Lists trees (elements x more) = (others : Trees) × Expresses trees x others × Lists others more
