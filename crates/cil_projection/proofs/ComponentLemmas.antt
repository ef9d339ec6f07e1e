-- The last component of a name, from the front on.
use Rattle.std.specs.Prelude.{◌≡◌, ℕ, ◌==◌, Bool, true, false, cond, ◌||◌, List, [], ◌∷◌, length, ◌<◌, ◌≤◌, refl}
use Rattle.std.proofs.Common.{◌∙◌, sym, arith}
use Rattle.cil_projection.specs.Pieces.{is_dotted, last_component}

-- what stands behind the last dot of the rest, or else what stood behind the last dot before it
abbrev pub last_from : List ℕ → List ℕ → List ℕ
last_from last [] = last
last_from last (b ∷ rest) = last_from (cond (b == 46) rest last) rest

whole : (name : List ℕ) → last_component name ≡ cond (is_dotted name) (last_component name) name
whole [] = refl
whole (b ∷ name) = elim (is_dotted (b ∷ name)) as (λ d. cond d (last_component name) (b ∷ name) ≡ cond d (cond d (last_component name) (b ∷ name)) (b ∷ name)) [ true ↦ refl | false ↦ refl ]

behind : (dotted : Bool) (name last : List ℕ) (b : ℕ) → cond dotted (last_component name) last ≡ cond dotted (cond dotted (last_component name) (b ∷ name)) last
behind true name last b = refl
behind false name last b = refl

from_is : (last name : List ℕ) → last_from last name ≡ cond (is_dotted name) (last_component name) last
from_is last [] = refl
from_is last (b ∷ name) =
    elim (b == 46) as (λ dot. last_from (cond dot name last) name ≡ cond (dot || is_dotted name) (cond (dot || is_dotted name) (last_component name) (b ∷ name)) last)
    [ true ↦ from_is name name ∙ sym (whole name) | false ↦ from_is last name ∙ behind (is_dotted name) name last b ]

pub last_is : (name : List ℕ) → last_from name name ≡ last_component name
last_is name = from_is name name ∙ sym (whole name)

-- where nothing is left
pub last_at_end : (last rest name : List ℕ) → length rest < 1 → last_from last rest ≡ last_from name name → last ≡ last_component name
last_at_end last [] name short is = is ∙ last_is name
last_at_end last (b ∷ rest) name short is = absurd (omega (arith, short))

-- it is no longer than the name
pub last_within : (name : List ℕ) → length (last_component name) ≤ length name
last_within [] = omega arith
last_within (b ∷ name) = by (is_dotted (b ∷ name)) (last_within name)
  where
    by : (d : Bool) → length (last_component name) ≤ length name → length (cond d (last_component name) (b ∷ name)) ≤ length (b ∷ name)
    by true within = omega (arith, within)
    by false within = omega arith
