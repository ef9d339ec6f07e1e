-- Trees of words, strings and lists, and the text that spells them.
use Rattle.std.specs.Prelude.{◌≡◌, ℕ, ◌+◌, ◌-◌, Bool, true, false, ◌&&◌, nat_le, nat_lt, List, [], ◌∷◌, ◌++◌, length}
use Rattle.cil_specs.specs.Place.{Place, place_at}
use Rattle.cil_specs.specs.Parts.{Part, white, comment, word, string, opening, closing, spelling, IsClean}

-- Trees one after the other: none, or a first tree and the trees after it. A word and a string have the place of their first
-- byte and all their bytes, a string's quotes too; a list has the place of its ( and the offset behind its ).
pub data Trees : Type 0 where
  none : Trees
  a_word : Place → List ℕ → Trees → Trees
  a_string : Place → List ℕ → Trees → Trees
  a_list : Place → ℕ → Trees → Trees → Trees

-- A part that is no white byte and no comment, and where it stands.
pub data Mark : Type 0 where
  word_at : Place → List ℕ → Mark
  string_at : Place → List ℕ → Mark
  opening_at : Place → Mark
  closing_before : ℕ → Mark

-- the marks of trees, a list being ( and its trees and )
abbrev pub marks : Trees → List Mark
marks none = []
marks (a_word at bytes rest) = word_at at bytes ∷ marks rest
marks (a_string at bytes rest) = string_at at bytes ∷ marks rest
marks (a_list at end items rest) = opening_at at ∷ (marks items ++ closing_before end ∷ marks rest)

-- the marks of the parts of a text from an offset on
abbrev pub told : List ℕ → ℕ → List Part → List Mark
told bytes at [] = []
told bytes at (white b ∷ parts) = told bytes (at + 1) parts
told bytes at (comment text ∷ parts) = told bytes (at + length (spelling (comment text))) parts
told bytes at (word text ∷ parts) = word_at (place_at bytes at) text ∷ told bytes (at + length text) parts
told bytes at (string text ∷ parts) = string_at (place_at bytes at) (spelling (string text)) ∷ told bytes (at + length (spelling (string text))) parts
told bytes at (opening ∷ parts) = opening_at (place_at bytes at) ∷ told bytes (at + 1) parts
told bytes at (closing ∷ parts) = closing_before (at + 1) ∷ told bytes (at + 1) parts

-- the bytes spell the trees: they are a clean front with no list open, and but for white bytes and comments its parts are the trees
abbrev pub Reads : List ℕ → Trees → Type 0
Reads bytes trees = (parts : List Part) × IsClean bytes (length bytes) [] parts × (told bytes 0 parts ≡ marks trees)

-- whether each tree is a list
abbrev pub are_lists : Trees → Bool
are_lists none = true
are_lists (a_word at bytes rest) = false
are_lists (a_string at bytes rest) = false
are_lists (a_list at end items rest) = are_lists rest

-- whether the trees stand one behind the other from one offset up to another, each with a byte at least, and those of a list between its ( and its )
abbrev pub in_order : ℕ → Trees → ℕ → Bool
in_order low none high = nat_le low high
in_order low (a_word at bytes rest) high = nat_le low at.offset && (nat_lt 0 (length bytes) && in_order (at.offset + length bytes) rest high)
in_order low (a_string at bytes rest) high = nat_le low at.offset && (nat_lt 0 (length bytes) && in_order (at.offset + length bytes) rest high)
in_order low (a_list at end items rest) high = nat_le low at.offset && (nat_lt 0 end && (in_order (at.offset + 1) items (end - 1) && in_order end rest high))
