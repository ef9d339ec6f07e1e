-- Where a text is no spelling of trees.
use Rattle.std.specs.Prelude.{◌≡◌, ◌≢◌, ℕ, ◌+◌, ◌<◌, ◌≤◌, ◌⊎◌, false, List, [], ◌∷◌, ◌++◌, length, drop, IsTrue}
use Rattle.std.specs.List.{list_all, take_while}
use Rattle.cil_specs.specs.Bytes.{is_white, is_word_byte, is_string_byte, is_mark, hex}
use Rattle.cil_specs.specs.Place.{place_at}
use Rattle.cil_specs.specs.Parts.{Part, IsClean, spelling}
use Rattle.cil_specs.specs.TextFault.{TextFaultKind, bad_byte, unbalanced, unclosed, unclosed_string, too_deep, bare_word, unsupported, misshapen, bad_name, reserved, not_in_optional, TextFault}

-- the bytes begin with a " and no other stands before the next line feed or the end
abbrev pub IsUnclosedString : List ℕ → Type 0
IsUnclosedString rest = (tail : List ℕ) × (rest ≡ 34 ∷ tail) × ((text more : List ℕ) → IsTrue (list_all is_string_byte text) → tail ≡ text ++ 34 ∷ more → ⊥)

-- the bytes begin with a " and another stands before the next line feed
abbrev pub IsClosedString : List ℕ → Type 0
IsClosedString rest = (text more : List ℕ) × (rest ≡ 34 ∷ (text ++ 34 ∷ more)) × IsTrue (list_all is_string_byte text)

-- Why no part begins with these bytes where these lists are open, and the word that shows it. That a list is open at the end
-- is no fault of this kind, and the last five are faults of another layer.
abbrev pub Stops : TextFaultKind → List ℕ → List ℕ → List ℕ → Type 0
Stops bad_byte lists rest shown = (b : ℕ) × (tail : List ℕ) × (rest ≡ b ∷ tail) × (is_white b ≡ false) × (is_word_byte b ≡ false) × (is_mark b ≡ false) × (shown ≡ hex b)
Stops unbalanced lists rest shown = (lists ≡ []) × (tail : List ℕ) × (rest ≡ 41 ∷ tail) × (shown ≡ 41 ∷ [])
Stops unclosed_string lists rest shown = IsUnclosedString rest × (shown ≡ 34 ∷ [])
Stops too_deep lists rest shown = (256 ≤ length lists) × (tail : List ℕ) × (rest ≡ 40 ∷ tail) × (shown ≡ 40 ∷ [])
Stops bare_word lists rest shown = (lists ≡ []) × (((shown ≢ []) × (shown ≡ take_while is_word_byte rest)) ⊎ (IsClosedString rest × (shown ≡ 34 ∷ [])))
Stops unclosed lists rest shown = ⊥
Stops unsupported lists rest shown = ⊥
Stops misshapen lists rest shown = ⊥
Stops bad_name lists rest shown = ⊥
Stops reserved lists rest shown = ⊥
Stops not_in_optional lists rest shown = ⊥

-- The fault stands where the bytes before it are a clean front and no part goes on; the word that it shows is that of its kind.
abbrev pub IsStop : List ℕ → TextFault → Type 0
IsStop bytes fault = (at : ℕ) × (lists : List ℕ) × (parts : List Part) × (at < length bytes) × IsClean bytes at lists parts
    × Stops fault.kind lists (drop at bytes) fault.word × (fault.at ≡ place_at bytes at)

-- The whole text is a clean front, and the fault stands at the innermost list that is open at its end.
abbrev pub IsUnclosed : List ℕ → TextFault → Type 0
IsUnclosed bytes fault = (inner : ℕ) × (lists : List ℕ) × (parts : List Part) × IsClean bytes (length bytes) (inner ∷ lists) parts
    × (fault ≡ record { kind = unclosed; at = place_at bytes inner; word = 40 ∷ [] })

-- the fault of a text that spells no trees
abbrev pub IsReadingFault : List ℕ → TextFault → Type 0
IsReadingFault bytes fault = IsStop bytes fault ⊎ IsUnclosed bytes fault

-- no part makes the clean front longer
abbrev pub IsStuck : List ℕ → ℕ → List Part → Type 0
IsStuck bytes at parts = (part : Part) (lists : List ℕ) → IsClean bytes (at + length (spelling part)) lists (parts ++ part ∷ []) → ⊥
