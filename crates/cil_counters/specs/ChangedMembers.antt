-- Who became a member, and who is none any more, by full names.
use Rattle.std.specs.Prelude.{◌≡◌, ◌≢◌, ◌↔◌, ◌+◌, ◌-◌, ◌<◌, ℕ, Bool, IsTrue, List, map, min, slice_get, Some}
use Rattle.std.specs.List.{AllPairs, Contains}
use Rattle.cil_counters.specs.declared.changed_members.ChangedMember.{ChangedMember}

-- They are the attributes and types that pass a test, each once.
pub record AreChangedMembers (test : List ℕ → List ℕ → Bool) (pairs : List (List ℕ × List ℕ)) : Type 0 where
  pub exact : (attribute ty : List ℕ) → Contains pairs (attribute, ty) ↔ IsTrue (test attribute ty)
  pub once : AllPairs (λ x y. x ≢ y) pairs

-- the names of an attribute and a type
abbrev pub pair_of : ChangedMember → List ℕ × List ℕ
pair_of m = (m.attribute.now, m.ty.now)

abbrev pub pairs_of : List ChangedMember → List (List ℕ × List ℕ)
pairs_of ms = map pair_of ms

-- Two names are those of symbols that are hit.
pub record AreHit (names : List (List ℕ)) (hits : ℕ → ℕ → ℕ) (attribute ty : List ℕ) : Type 0 where
  pub row : ℕ
  pub target : ℕ
  pub attribute_at : slice_get names row ≡ Some attribute
  pub ty_at : slice_get names target ≡ Some ty
  pub hit : 0 < hits row target

-- They are the names of the symbols that are hit, each once.
pub record AreNamed (names : List (List ℕ)) (hits : ℕ → ℕ → ℕ) (pairs : List (List ℕ × List ℕ)) : Type 0 where
  pub exact : (attribute ty : List ℕ) → Contains pairs (attribute, ty) ↔ AreHit names hits attribute ty
  pub once : AllPairs (λ x y. x ≢ y) pairs

-- 1 where a counter was 0 and is above 0, or the other way round
abbrev pub has_turned : (ℕ → ℕ → ℕ) → (ℕ → ℕ → ℕ) → ℕ → ℕ → ℕ
has_turned was is r t = (min 1 (is r t) - min 1 (was r t)) + (min 1 (was r t) - min 1 (is r t))
