-- What an expression holds by the values of its leaves.
use Rattle.std.specs.Prelude.{◌≡◌, Bool}
pub use Rattle.cil_specs.specs.Expr.{holds_by}

-- each answer of known for one of these leaves is its value
abbrev pub Answers : {leaf : Type 0} → (leaf → Bool → Type 0) → (leaf → Type 0) → (leaf → Bool) → Type 0
Answers {leaf} post asked value = (l : leaf) (r : Bool) → asked l → post l r → r ≡ value l
