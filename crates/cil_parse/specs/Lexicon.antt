-- The words of a module by numbers.
use Rattle.std.specs.Prelude.{◌≡◌, ℕ, List, [], ◌∷◌, ◌++◌, map, Some, slice_get}
use Rattle.std.specs.Borrow.{Bor}
use Rattle.cil_specs.specs.Names.{components}
use Rattle.cil_parse.specs.declared.lexicon.Lexicon.{Lexicon}

-- what is behind references
abbrev pub seen : {T : Type 0} → List (Bor (List T)) → List (List T)
seen names = map (λ name. name.now) names

abbrev pub texts_in : {A : Type 0} → Lexicon A → List (List ℕ)
texts_in l = l.texts

abbrev pub names_in : {A : Type 0} → Lexicon A → List (List ℕ)
names_in l = l.names

-- what has a number in the one list has it in the other
abbrev pub Keeps : List (List ℕ) → List (List ℕ) → Type 0
Keeps old new = (n : ℕ) (name : List ℕ) → slice_get old n ≡ Some name → slice_get new n ≡ Some name

-- the numbers are those of the names
abbrev pub AreNumbersOf : List (List ℕ) → List ℕ → List (List ℕ) → Type 0
AreNumbersOf all numbers names = map (slice_get all) numbers ≡ map Some names

-- each list has the numbers of the names between the dots of a text
abbrev pub AreSplit : List (List ℕ) → List (List ℕ) → List (List ℕ) → Type 0
AreSplit names lists texts = map (map (slice_get names)) lists ≡ map (λ text. map Some (components text)) texts

-- the numbers of these names came to the open list
pub record AddsNames {A : Type 0} (old new : Lexicon A) (names : List (List ℕ)) : Type 0 where
  pub texts : texts_in new ≡ texts_in old
  pub keeps : Keeps (names_in old) (names_in new)
  pub closed : new.components.0 ≡ old.components.0
  pub open_list : (before : List (List ℕ)) → AreNumbersOf (names_in old) old.components.1 before → AreNumbersOf (names_in new) new.components.1 (before ++ names)

-- a list with the numbers of the names of this text came
pub record SplitsText {A : Type 0} (old new : Lexicon A) (text : List ℕ) : Type 0 where
  pub texts : texts_in new ≡ texts_in old
  pub split : (before : List (List ℕ)) → AreSplit (names_in old) old.components.0 before → old.components.1 ≡ [] → AreSplit (names_in new) new.components.0 (before ++ text ∷ [])
  pub none_open : new.components.1 ≡ []

pub record IsLexicon {A : Type 0} (l : Lexicon A) : Type 0 where
  pub split : AreSplit (names_in l) l.components.0 (texts_in l)
  pub none_open : l.components.1 ≡ []
