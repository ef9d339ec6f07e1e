-- A text as parts one after the other.
use Rattle.std.specs.Prelude.{◌≡◌, ◌≢◌, ℕ, ◌+◌, ◌<◌, ◌≤◌, Bool, false, List, [], ◌∷◌, ◌++◌, length, drop, IsTrue}
use Rattle.std.specs.List.{list_all}
use Rattle.cil_specs.specs.Bytes.{is_white, is_word_byte, is_comment_byte, is_string_byte}

-- A comment has the bytes behind its ; and a string those between its quotes.
pub data Part : Type 0 where
  white : ℕ → Part
  comment : List ℕ → Part
  word : List ℕ → Part
  string : List ℕ → Part
  opening : Part
  closing : Part

-- the bytes of a part
abbrev pub spelling : Part → List ℕ
spelling (white b) = b ∷ []
spelling (comment bytes) = 59 ∷ bytes
spelling (word bytes) = bytes
spelling (string bytes) = 34 ∷ (bytes ++ 34 ∷ [])
spelling opening = 40 ∷ []
spelling closing = 41 ∷ []

-- which bytes may stand in a part
abbrev pub IsPart : Part → Type 0
IsPart (white b) = IsTrue (is_white b)
IsPart (comment bytes) = IsTrue (list_all is_comment_byte bytes)
IsPart (word bytes) = (bytes ≢ []) × IsTrue (list_all is_word_byte bytes)
IsPart (string bytes) = IsTrue (list_all is_string_byte bytes)
IsPart opening = Unit {0}
IsPart closing = Unit {0}

-- whether a part would go on with this byte behind it
abbrev pub goes_on : Part → ℕ → Bool
goes_on (white b) next = false
goes_on (comment bytes) next = is_comment_byte next
goes_on (word bytes) next = is_word_byte next
goes_on (string bytes) next = false
goes_on opening next = false
goes_on closing next = false

-- the part doesn't go on with what stands behind it
abbrev pub EndsBefore : Part → List ℕ → Type 0
EndsBefore part [] = Unit {0}
EndsBefore part (b ∷ bytes) = goes_on part b ≡ false

-- the bytes are these parts one after the other, each as long as it can be, and then the rest
abbrev pub Splits : List ℕ → List Part → List ℕ → Type 0
Splits bytes [] rest = bytes ≡ rest
Splits bytes (part ∷ parts) rest = (tail : List ℕ) × (bytes ≡ spelling part ++ tail) × IsPart part × EndsBefore part tail × Splits tail parts rest

-- A part that begins at an offset leads from the lists that are open before it to those that are open behind it. A list is
-- named by the offset of its ( and the innermost stands first. Words and strings stand in a list, a ) closes the innermost
-- one, and at most 256 are open.
abbrev pub Moves : List ℕ → ℕ → Part → List ℕ → Type 0
Moves lists at (white b) new = new ≡ lists
Moves lists at (comment bytes) new = new ≡ lists
Moves lists at (word bytes) new = (lists ≢ []) × (new ≡ lists)
Moves lists at (string bytes) new = (lists ≢ []) × (new ≡ lists)
Moves lists at opening new = (length lists < 256) × (new ≡ at ∷ lists)
Moves lists at closing new = (inner : ℕ) × (lists ≡ inner ∷ new)

-- the same for parts one after the other
abbrev pub Nests : List ℕ → ℕ → List Part → List ℕ → Type 0
Nests lists at [] new = new ≡ lists
Nests lists at (part ∷ parts) new = (mid : List ℕ) × Moves lists at part mid × Nests mid (at + length (spelling part)) parts new

-- The front of a text up to an offset is clean: it is these parts, none of which goes on behind it, and these lists are open there.
pub record IsClean (bytes : List ℕ) (at : ℕ) (lists : List ℕ) (parts : List Part) : Type 0 where
  pub within : at ≤ length bytes
  pub splits : Splits bytes parts (drop at bytes)
  pub nests : Nests [] 0 parts lists
