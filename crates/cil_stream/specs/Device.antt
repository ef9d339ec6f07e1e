-- Sources that give bytes and sinks that take them, by what they tell.
use Rattle.std.specs.Prelude.{◌≡◌, ℕ, ◌+◌, ◌-◌, ◌<◌, ◌≤◌, ◌^◌, ◌⊎◌, Bool, true, false, nat_le, ◌==◌, ◌&&◌, List, [], ◌++◌, length, take, drop, min, max, Option, None, Some, IsTrue, if◌then◌else◌}
use Rattle.std.specs.Option.{option_map}
use Rattle.std.proofs.Common.{refl, sym, ap, ◌∙◌, true≢false, append-nil}
use Rattle.std.proofs.lemmas.List.{take-append-drop, take_all}
use Rattle.std.proofs.lemmas.Bool.{leb-true}

-- the count of failures rose, or stands at its greatest value
abbrev pub HasFailed : ℕ → ℕ → Type 0
HasFailed old new = (old < new) ⊎ (new ≡ 2 ^ 64 - 1)

-- the bytes that were told, and then the text; nothing is said where the bytes are not told
abbrev pub Gains : Option (List ℕ) → Option (List ℕ) → List ℕ → Type 0
Gains old new text = new ≡ option_map (λ bytes. bytes ++ text) old

-- the bytes that were told, and then a beginning of the text
abbrev pub GainsFront : Option (List ℕ) → Option (List ℕ) → List ℕ → Type 0
GainsFront old new text = (n : ℕ) × (n ≤ length text) × Gains old new (take n text)

-- What a source tells of itself: its whole text, and what it gave of it, where it can tell them; how many bytes it gave, how
-- often it told its end, and how often it failed.
pub record Account : Type 0 where
  pub whole : Option (List ℕ)
  pub given : Option (List ℕ)
  pub count : ℕ
  pub ends : ℕ
  pub failures : ℕ

-- whether it told its end
abbrev pub has_ended : Account → Bool
has_ended account = nat_le 1 account.ends

-- it told its end in between: the count of ends rose, or has come to its greatest value
abbrev pub HasEnded : Account → Account → Type 0
HasEnded old new = (old.ends < new.ends) ⊎ (2 ^ 64 - 1 ≤ new.ends)

-- Of its whole text this is left, behind what it gave.
pub record IsLeft (account : Account) (rest : List ℕ) : Type 0 where
  pub front : List ℕ
  pub given : account.given ≡ Some front
  pub whole : account.whole ≡ Some (front ++ rest)

-- What was given begins the whole text, and once the end was told it is all of it.
pub record IsSound (account : Account) : Type 0 where
  pub front : (whole given : List ℕ) → account.whole ≡ Some whole → account.given ≡ Some given → (rest : List ℕ) × (whole ≡ given ++ rest)
  pub all : IsTrue (has_ended account) → (whole : List ℕ) → account.whole ≡ Some whole → account.given ≡ Some whole

-- Between two moments it gave these bytes, of a text that stays the same.
pub record Gives (old new : Account) (bytes : List ℕ) : Type 0 where
  pub whole : new.whole ≡ old.whole
  pub given : Gains old.given new.given bytes
  pub count : new.count ≡ old.count + length bytes
  pub ends : old.ends ≤ new.ends

-- A source over memory: its text, how much of it was given, how much it gives a call and before it fails, how often it told its
-- end, and its failures.
pub record Reel : Type 0 where
  pub text : List ℕ
  pub at : ℕ
  pub greatest : ℕ
  pub limit : ℕ
  pub ends : ℕ
  pub failures : ℕ

-- It tells its end only where its whole text was given.
abbrev pub account_of : Reel → Account
account_of r = record {
  whole = Some r.text;
  given = Some (take r.at r.text);
  count = r.at;
  ends = if nat_le (length r.text) r.at then r.ends else 0;
  failures = r.failures;
}

pub reel-sound : (r : Reel) → IsSound (account_of r)
reel-sound r = record {
  front = λ whole given w g. let e = take-append-drop r.at r.text in (drop r.at r.text, cc);
  all = λ ended whole w. ap Some (take_all r.at r.text (leb-true (length r.text) r.at (by (nat_le (length r.text) r.at) refl ended))) ∙ w;
}
  where
    by : (b : Bool) → nat_le (length r.text) r.at ≡ b → nat_le 1 (if b then r.ends else 0) ≡ true → nat_le (length r.text) r.at ≡ true
    by true e ended = e
    by false e ended = absurd (true≢false (sym ended))

-- What a call gives: as many bytes as are left, as fit into the buffer, as it gives a call, and as it gives before it fails.
-- They stand at the front of the buffer. None into a buffer that isn't empty tells the end.
pub record HasGiven (old new : Reel) (before after : List ℕ) (n : ℕ) : Type 0 where
  pub amount : n ≡ min (min (min (length old.text - old.at) (length before)) (max old.greatest 1)) (old.limit - old.at)
  pub bytes : after ≡ take n (drop old.at old.text) ++ drop n before
  pub reel : new ≡ record old { at = old.at + n; ends = if (n == 0) && nat_le 1 (length before) then min (old.ends + 1) (2 ^ 64 - 1) else old.ends }

-- after it failed
abbrev pub failed : Reel → Reel
failed r = record r { failures = min (r.failures + 1) (2 ^ 64 - 1) }

-- A sink over memory: what it took, how much it takes a call and before it fails, and its failures.
pub record Tray : Type 0 where
  pub bytes : List ℕ
  pub greatest : ℕ
  pub limit : ℕ
  pub failures : ℕ

-- What a call takes: as much of the piece as it takes a call, and as it takes before it fails.
pub record HasTaken (old new : Tray) (piece : List ℕ) (n : ℕ) : Type 0 where
  pub amount : n ≡ min (min (length piece) old.greatest) (old.limit - length old.bytes)
  pub tray : new ≡ record old { bytes = old.bytes ++ take n piece }

-- What is known now, of what was known at first.
abbrev pub told : Option (List ℕ) → Option (List ℕ) → Option (List ℕ)
told None now = None
told (Some first) now = now

-- A source over a reader: what the reader had to give at first, where it knew it; how many bytes the source gave, how often it told
-- its end, and how often it failed.
pub record Feed : Type 0 where
  pub whole : Option (List ℕ)
  pub count : ℕ
  pub ends : ℕ
  pub failures : ℕ

-- Once it told its end, its whole text is what it gave; that this is all that the reader had is a fact of each source (`IsFed`).
abbrev pub account_of_feed : Feed → Account
account_of_feed f = record {
  whole = option_map (λ text. if nat_le 1 f.ends then take f.count text else text) f.whole;
  given = option_map (take f.count) f.whole;
  count = f.count;
  ends = f.ends;
  failures = f.failures;
}

-- The reader has left of its whole text what was not given, and nothing once the end was told.
pub record IsFed (whole left : Option (List ℕ)) (count ends : ℕ) : Type 0 where
  pub rest : (text : List ℕ) → whole ≡ Some text → left ≡ Some (drop count text)
  pub within : (text : List ℕ) → whole ≡ Some text → count ≤ length text
  pub all : 0 < ends → (text : List ℕ) → whole ≡ Some text → length text ≤ count

pub feed-sound : (f : Feed) → IsSound (account_of_feed f)
feed-sound f = record { front = front f.whole (nat_le 1 f.ends); all = all f.whole (nat_le 1 f.ends) }
  where
    front : (known : Option (List ℕ)) (b : Bool) (whole given : List ℕ) → option_map (λ text. if b then take f.count text else text) known ≡ Some whole → option_map (take f.count) known ≡ Some given
        → (rest : List ℕ) × (whole ≡ given ++ rest)
    front None b whole given w g = absurd (cc)
    front (Some text) true whole given w g = let e = append-nil (take f.count text) in ([], cc)
    front (Some text) false whole given w g = let e = take-append-drop f.count text in (drop f.count text, cc)

    all : (known : Option (List ℕ)) (b : Bool) → b ≡ true → (whole : List ℕ) → option_map (λ text. if b then take f.count text else text) known ≡ Some whole → option_map (take f.count) known ≡ Some whole
    all None b ended whole w = w
    all (Some text) true ended whole w = w
    all (Some text) false ended whole w = absurd (true≢false (sym ended))

-- A sink over a writer: what the writer holds and what it held when it was flushed last, where it knew what it held at first; and how
-- often it failed.
pub record Outflow : Type 0 where
  pub taken : Option (List ℕ)
  pub flushed : Option (List ℕ)
  pub failures : ℕ
