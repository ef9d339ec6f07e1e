-- What was read from a source that gives bytes in pieces.
use Rattle.std.specs.Prelude.{◌≡◌, ◌≢◌, ℕ, ◌+◌, ◌<◌, ◌≤◌, ◌^◌, Bool, true, false, not, List, [], ◌∷◌, ◌++◌, length, count_by, IsTrue, ◌⊎◌}
use Rattle.cil_specs.specs.Place.{is_line_feed}
use Rattle.cil_stream.specs.Device.{Account, Gives}
use Rattle.cil_session.specs.declared.input.LineEnd.{LineEnd}
use Rattle.cil_session.specs.declared.input.LineEnd.TheVariants.{LineFeed, LastByte, TooLong}

-- What was taken from a source and is held back, and the line feeds in what was read.
pub record Held : Type 0 where
  pub bytes : List ℕ
  pub line_feeds : ℕ

-- Between two moments a source gave bytes, and of those held back before and these, some were read and the others are held back.
pub record Takes (was is : Account) (before read held : List ℕ) : Type 0 where
  pub fresh : List ℕ
  pub gives : Gives was is fresh
  pub same : before ++ fresh ≡ read ++ held

-- What an input holds back is of what its source counted; where it holds bytes back, the source counted fewer than 2 ^ 64.
pub record Fits (count : ℕ) (held : Held) : Type 0 where
  pub within : held.line_feeds + length held.bytes ≤ count
  pub small : held.bytes ≢ [] → count < 2 ^ 64

-- These bytes were read: of a source by its account before and now, of an input by what it held back before and now.
pub record HasRead (was is : Account) (old new : Held) (read : List ℕ) : Type 0 where
  pub takes : Takes was is old.bytes read new.bytes
  pub line_feeds : new.line_feeds ≡ old.line_feeds + count_by is_line_feed read
  pub counts : is.count + length old.bytes ≡ was.count + length read + length new.bytes
  pub fits : Fits is.count new
  pub small : read ≢ [] → is.count < 2 ^ 64

-- A source failed: of its bytes these were read, and nothing is held back.
pub record HasStopped (was is : Account) (old new : Held) (read : List ℕ) : Type 0 where
  pub reads : HasRead was is old new read
  pub none : new.bytes ≡ []

-- a byte that ends no line
abbrev pub stays : ℕ → Bool
stays b = not (is_line_feed b)

-- how the bytes read end a line: by a line feed; by the end of the source; or because the line is longer than a line may be
abbrev pub EndsLine : LineEnd → List ℕ → List ℕ → Bool → List ℕ → Type 0
EndsLine LineFeed line read ended held = read ≡ line ++ 10 ∷ []
EndsLine LastByte line read ended held = (read ≡ line) × IsTrue ended × (held ≡ [])
EndsLine TooLong line read ended held = (b : ℕ) × IsTrue (stays b) × (read ≡ line ++ b ∷ []) × (length line ≡ 4096)

-- the bytes read are a text of this length as a whole; or they are fewer, and the source ended
abbrev pub IsText : Bool → ℕ → List ℕ → Bool → List ℕ → Type 0
IsText true len read ended held = length read ≡ len
IsText false len read ended held = (length read < len) × IsTrue ended × (held ≡ [])

-- what was read is no line feed: nothing, and the source ended; or another byte
abbrev pub IsOther : List ℕ → Bool → List ℕ → Type 0
IsOther read ended held = ((read ≡ []) × IsTrue ended × (held ≡ [])) ⊎ ((b : ℕ) × (read ≡ b ∷ []) × (b ≢ 10))

-- not the text of an install and its line feed: less than them, and the source ended; or another byte stands behind the text
abbrev pub IsShort : ℕ → List ℕ → Bool → List ℕ → Type 0
IsShort len read ended held = ((length read ≤ len) × IsTrue ended × (held ≡ [])) ⊎ ((text : List ℕ) × (b : ℕ) × (read ≡ text ++ b ∷ []) × (length text ≡ len) × (b ≢ 10))

-- the text of an install and its line feed
abbrev pub IsWholeText : Bool → ℕ → List ℕ → List ℕ → Bool → List ℕ → Type 0
IsWholeText true len text read ended held = (read ≡ text ++ 10 ∷ []) × (length text ≡ len)
IsWholeText false len text read ended held = IsShort len read ended held
