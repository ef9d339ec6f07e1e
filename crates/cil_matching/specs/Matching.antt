-- Statements that stand in two lists.
use Rattle.std.specs.Prelude.{◌≡◌, ◌↔◌, ◌<◌, ℕ, List, Option, Some, length, slice_get}

-- For each statement of one list the place of the same one in the other list, if there is one, and back.
pub record Matched : Type 0 where
  pub ahead : List (Option ℕ)
  pub back : List (Option ℕ)

-- The statement at the one place and that at the other are the same.
pub record AreSameAt {S : Type 0} (IsSame : S → S → Type 0) (old new : List S) (i j : ℕ) : Type 0 where
  pub statement : S
  pub other : S
  pub here : slice_get old i ≡ Some statement
  pub there : slice_get new j ≡ Some other
  pub same : IsSame statement other

-- Exactly the places of the same statements are put together, both ways.
pub record AreMatched {S : Type 0} (IsSame : S → S → Type 0) (old new : List S) (m : Matched) : Type 0 where
  pub ahead : (i j : ℕ) → (slice_get m.ahead i ≡ Some (Some j)) ↔ AreSameAt IsSame old new i j
  pub back : (i j : ℕ) → (slice_get m.back j ≡ Some (Some i)) ↔ AreSameAt IsSame old new i j

-- The places of the same statements, of so many of the old ones.
pub record ArePlaces {S : Type 0} (IsSame : S → S → Type 0) (old new : List S) (count : ℕ) (ahead : List (Option ℕ)) : Type 0 where
  pub long : length ahead ≡ count
  pub exact : (i j : ℕ) → i < count → (slice_get ahead i ≡ Some (Some j)) ↔ AreSameAt IsSame old new i j

-- So many places, of which each that is told is that of the same statement. None may be told where there is one.
pub record AreRight {S : Type 0} (IsSame : S → S → Type 0) (old new : List S) (count : ℕ) (places : List (Option ℕ)) : Type 0 where
  pub long : length places ≡ count
  pub right : (i j : ℕ) → slice_get places i ≡ Some (Some j) → AreSameAt IsSame old new i j

-- For each name of an old policy its number in a new one, if that has the name.
abbrev pub AreNumbers : List (List ℕ) → List (List ℕ) → List (Option ℕ) → Type 0
AreNumbers old new numbers = ArePlaces (λ (x y : List ℕ). x ≡ y) old new (length old) numbers
