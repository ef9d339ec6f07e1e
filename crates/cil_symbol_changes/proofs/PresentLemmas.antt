-- The accesses of the targets whose counters are above 0, word by word and line by line.
use Rattle.cil_symbol_changes.proofs.Common.{◌≡◌, ◌⊎◌, ℕ, ◌+◌, ◌*◌, ◌/◌, ◌%◌, ◌<◌, ◌≤◌, Bool, true, false, cond, List, length, min, slice_get, refl, sym, ap, subst, ◌∙◌, inl, inr, arith, bit_at, cases_eq, cases_lt, All-contains, same_Some, slice_get_within, bit_at-zero, AccessNumbers, Chunk, Keyed, IsLineOf, IsNoLine, now_at, count_now, SymbolKey, hit, IsNextPresent, IsPresence, NonePresent, AreGained, AreKnown, AreKnownIn, IsTo, access_by, is_listed, listed, ArePresentNumbered, IsPresent, AreListedPlaces, IsAmong, IsAt, IsAtWord, IsListedIn, LinePlace}
use Rattle.cil_lines.proofs.StepLemmas.{hit-here, hit-there}
use Rattle.cil_symbol_changes.proofs.ChangeLemmas.{line-now}
use Rattle.cil_symbol_changes.proofs.GainedLemmas.{gained-alike, gained-more, gained-none}
use Rattle.cil_symbol_changes.proofs.OrderLemmas.{among-at, IsListedPlace}

-- the targets of the mask of a word are those that are counted
hit-counted : (counts : ℕ → ℕ) (word mask : ℕ) → IsPresence counts word mask → (t : ℕ) → 0 < hit word mask t → (t / 64 ≡ word) × (0 < counts t)
hit-counted counts word mask present t some =
    elim (cases_eq (t / 64) word) [
      | inl here ↦
          let at : 64 * word + t % 64 ≡ t = omega (arith, here) in
          let is = hit-here word mask t here in
          let bit : bit_at mask (t % 64) ≡ min 1 (counts t) = present (t % 64) (omega arith) ∙ ap (λ n. min 1 (counts n)) at in
          (here, omega (arith, some, is, bit))
      | inr there ↦ let none = hit-there word mask t there in absurd (omega (arith, some, none))
    ]

counted-hit : (counts : ℕ → ℕ) (word mask : ℕ) → IsPresence counts word mask → (t : ℕ) → t / 64 ≡ word → 0 < counts t → 0 < hit word mask t
counted-hit counts word mask present t here some =
    let at : 64 * word + t % 64 ≡ t = omega (arith, here) in
    let is = hit-here word mask t here in
    let bit : bit_at mask (t % 64) ≡ min 1 (counts t) = present (t % 64) (omega arith) ∙ ap (λ n. min 1 (counts n)) at in
    omega (arith, some, is, bit)

-- a target that is counted, in a word before one
abbrev pub IsBefore : (ℕ → ℕ) → ℕ → ℕ → Type 0
IsBefore counts from t = (0 < counts t) × (t / 64 < from)

-- ---- the words of a line

module _ (numbers : List ℕ) (key : SymbolKey) (counts : ℕ → ℕ) where
  moved : (f g : ℕ → Type 0) (a : AccessNumbers) (told : IsTo numbers key f a) → g told.target → IsTo numbers key g a
  moved f g a told among = record { target = told.target; among = among; same = told.same }

  pub words-more : (from word mask : ℕ) (old mid new : List Chunk) → IsNextPresent counts from word → IsPresence counts word mask → AreGained (IsTo numbers key (IsBefore counts from)) old mid
      → AreGained (IsTo numbers key (λ t. 0 < hit word mask t)) mid new → AreGained (IsTo numbers key (IsBefore counts (word + 1))) old new
  words-more from word mask old mid new next present first second =
      gained-more (IsTo numbers key (IsBefore counts from)) (IsTo numbers key (λ t. 0 < hit word mask t)) (IsTo numbers key (IsBefore counts (word + 1))) old mid new first second split left right
    where
      split : (a : AccessNumbers) → IsTo numbers key (IsBefore counts (word + 1)) a → IsTo numbers key (IsBefore counts from) a ⊎ IsTo numbers key (λ t. 0 < hit word mask t) a
      split a told =
          let (some, low) = told.among in
          elim (cases_lt (told.target / 64) from) [
            | inl before ↦ inl (moved (IsBefore counts (word + 1)) (IsBefore counts from) a told (some, before))
            | inr behind ↦ elim (cases_eq (told.target / 64) word) [
              | inl here ↦ inr (moved (IsBefore counts (word + 1)) (λ t. 0 < hit word mask t) a told (counted-hit counts word mask present told.target here some))
              | inr there ↦ let none = next.first told.target behind (omega (arith, low, there)) in absurd (omega (arith, some, none))
            ]
          ]

      left : (a : AccessNumbers) → IsTo numbers key (IsBefore counts from) a → IsTo numbers key (IsBefore counts (word + 1)) a
      left a told = let on = next.from_on in let low = told.among.1 in moved (IsBefore counts from) (IsBefore counts (word + 1)) a told (told.among.0, omega (arith, on, low))

      right : (a : AccessNumbers) → IsTo numbers key (λ t. 0 < hit word mask t) a → IsTo numbers key (IsBefore counts (word + 1)) a
      right a told =
          let (here, some) = hit-counted counts word mask present told.target told.among in
          moved (λ t. 0 < hit word mask t) (IsBefore counts (word + 1)) a told (some, omega (arith, here))

  pub words-all : (from : ℕ) (old new : List Chunk) → NonePresent counts from → AreGained (IsTo numbers key (IsBefore counts from)) old new → AreGained (IsTo numbers key (λ t. 0 < counts t)) old new
  words-all from old new none gained =
      gained-alike (IsTo numbers key (IsBefore counts from)) (IsTo numbers key (λ t. 0 < counts t)) old new gained
      (λ a told. moved (IsBefore counts from) (λ t. 0 < counts t) a told told.among.0)
      (λ a told. moved (λ t. 0 < counts t) (IsBefore counts from) a told (told.among, before told.target told.among))
    where
      before : (t : ℕ) → 0 < counts t → t / 64 < from
      before t some = elim (cases_lt (t / 64) from) [ inl low ↦ low | inr past ↦ let zero = none t past in absurd (omega (arith, some, zero)) ]

  -- the symbols of a word's targets have numbers
  pub known-present : (word mask : ℕ) → IsPresence counts word mask → AreKnown numbers key counts → AreKnown numbers key (hit word mask)
  known-present word mask present known t some = known t (hit-counted counts word mask present t some).1

-- ---- lines

module _ (numbers : List ℕ) (lines : Keyed) where
  pub in-place : (place : ℕ) (key : SymbolKey) (old new : List Chunk) → IsLineOf lines place key → AreGained (IsTo numbers key (λ t. 0 < now_at lines place t)) old new → AreGained (IsAt numbers lines place) old new
  in-place place key old new line gained =
      gained-alike (IsTo numbers key (λ t. 0 < now_at lines place t)) (IsAt numbers lines place) old new gained
      (λ a told. record { told = record { place = place; key = key; line = line; target = told.target; among = told.among; same = told.same }; here = refl }) from
    where
      from : (a : AccessNumbers) → IsAt numbers lines place a → IsTo numbers key (λ t. 0 < now_at lines place t) a
      from a at =
          let told = at.told in
          let keys : told.key ≡ key = same_Some told.key key (sym told.line.at ∙ ap (slice_get lines.keys) at.here ∙ line.at) in
          record { target = told.target; among = subst (λ n. 0 < now_at lines n told.target) at.here told.among; same = told.same ∙ ap (λ k. access_by numbers k told.target) keys }

  pub in-no_place : (place : ℕ) (old : List Chunk) → IsNoLine lines place → AreGained (IsAt numbers lines place) old old
  in-no_place place old none = gained-none (IsAt numbers lines place) old (λ a at.
      let within = slice_get_within lines.keys at.told.place at.told.key at.told.line.at in
      let here = at.here in
      let behind = none.behind in
      omega (arith, within, here, behind))

  -- an order that has the lines of a listing
  pub among-listed : (order : List LinePlace) (old new : List Chunk) → AreListedPlaces lines order
      → AreGained (IsAmong (IsAt numbers lines) order) old new
      → AreGained (IsListedIn numbers lines) old new
  among-listed order old new listed gained =
      gained-alike (IsAmong (IsAt numbers lines) order) (IsListedIn numbers lines) old new gained to
      from
    where
      to : (a : AccessNumbers) → IsAmong (IsAt numbers lines) order a → IsListedIn numbers lines a
      to a (k, x, within, at, is) =
          let told = is.told in
          let line = subst (λ l. IsLineOf lines l told.key) is.here told.line in
          record {
            told = told;
            listed = All-contains (IsListedPlace lines) order x listed.alone (k, within, at) told.key line;
          }

      from : (a : AccessNumbers) → IsListedIn numbers lines a → IsAmong (IsAt numbers lines) order a
      from a one =
          let told = one.told in
          among-at (IsAt numbers lines) order told.place a
          (listed.all told.place told.key told.line one.listed)
          (record { told = told; here = refl })

-- ---- lines, word by word

-- the access of a place, to a target in a word before one
pub record IsAtBefore (numbers : List ℕ) (lines : Keyed) (word place : ℕ) (a : AccessNumbers) : Type 0 where
  pub told : IsAt numbers lines place a
  pub low : told.told.target / 64 < word

module _ (numbers : List ℕ) (lines : Keyed) (word place : ℕ) where
  pub word-place : (key : SymbolKey) (mask : ℕ) (old new : List Chunk) → IsLineOf lines place key → IsPresence (now_at lines place) word mask → AreGained (IsTo numbers key (λ t. 0 < hit word mask t)) old new
      → AreGained (IsAtWord numbers lines word place) old new
  word-place key mask old new line present gained = gained-alike (IsTo numbers key (λ t. 0 < hit word mask t)) (IsAtWord numbers lines word place) old new gained to from
    where
      to : (a : AccessNumbers) → IsTo numbers key (λ t. 0 < hit word mask t) a → IsAtWord numbers lines word place a
      to a told =
          let (here, some) = hit-counted (now_at lines place) word mask present told.target told.among in
          record { told = record { told = record { place = place; key = key; line = line; target = told.target; among = some; same = told.same }; here = refl }; stands = here }

      from : (a : AccessNumbers) → IsAtWord numbers lines word place a → IsTo numbers key (λ t. 0 < hit word mask t) a
      from a at =
          let told = at.told.told in
          let keys : told.key ≡ key = same_Some told.key key (sym told.line.at ∙ ap (slice_get lines.keys) at.told.here ∙ line.at) in
          record {
            target = told.target;
            among = counted-hit (now_at lines place) word mask present told.target at.stands (subst (λ n. 0 < now_at lines n told.target) at.told.here told.among);
            same = told.same ∙ ap (λ k. access_by numbers k told.target) keys;
          }

  pub word-no_line : (old : List Chunk) → IsNoLine lines place → AreGained (IsAtWord numbers lines word place) old old
  word-no_line old none = gained-none (IsAtWord numbers lines word place) old (λ a at.
      let told = at.told.told in
      let within = slice_get_within lines.keys told.place told.key told.line.at in
      let here = at.told.here in
      let behind = none.behind in
      omega (arith, within, here, behind))

  pub word-nothing : (mask : ℕ) (old : List Chunk) → IsPresence (now_at lines place) word mask → mask ≡ 0 → AreGained (IsAtWord numbers lines word place) old old
  word-nothing mask old present none = gained-none (IsAtWord numbers lines word place) old (λ a at.
      let told = at.told.told in
      let some = counted-hit (now_at lines place) word mask present told.target at.stands (subst (λ n. 0 < now_at lines n told.target) at.told.here told.among) in
      let is = hit-here word mask told.target at.stands in
      let clear = ap (λ n. bit_at n (told.target % 64)) none ∙ bit_at-zero (told.target % 64) in
      omega (arith, some, is, clear))

module _ (numbers : List ℕ) (lines : Keyed) (source : List LinePlace) where
  abbrev pub UpTo : ℕ → AccessNumbers → Type 0
  UpTo word = IsAmong (IsAtBefore numbers lines word) source

  abbrev Here : ℕ → AccessNumbers → Type 0
  Here word = IsAmong (IsAtWord numbers lines word) source

  abbrev Each : AccessNumbers → Type 0
  Each = IsAmong (IsAt numbers lines) source

  pub among-no_words : (old : List Chunk) → AreGained (UpTo 0) old old
  among-no_words old = gained-none (UpTo 0) old (λ a some. let low = some.4.low in omega (arith, low))

  pub among-word : (word : ℕ) (old mid new : List Chunk) → AreGained (UpTo word) old mid
      → AreGained (Here word) mid new → AreGained (UpTo (word + 1)) old new
  among-word word old mid new first second =
      gained-more (UpTo word) (Here word) (UpTo (word + 1)) old mid new first second split left
      right
    where
      split : (a : AccessNumbers) → UpTo (word + 1) a → UpTo word a ⊎ Here word a
      split a (k, x, within, at, is) =
          let low = is.low in
          elim (cases_lt (is.told.told.target / 64) word) [
            | inl before ↦ inl (k, x, within, at, record { told = is.told; low = before })
            | inr behind ↦ inr (k, x, within, at, record { told = is.told; stands = omega (arith, low, behind) })
          ]

      left : (a : AccessNumbers) → UpTo word a → UpTo (word + 1) a
      left a (k, x, within, at, is) = (k, x, within, at, record { told = is.told; low = (let low = is.low in omega (arith, low)) })

      right : (a : AccessNumbers) → Here word a → UpTo (word + 1) a
      right a (k, x, within, at, is) = (k, x, within, at, record { told = is.told; low = (let here = is.stands in omega (arith, here)) })

  -- no symbol that is known stands behind the words
  pub among-words : (words : ℕ) (old new : List Chunk) → length numbers ≤ 64 * words
      → AreKnownIn numbers lines (now_at lines) → AreGained (UpTo words) old new
      → AreGained Each old new
  among-words words old new past known gained = gained-alike (UpTo words) Each old new gained to from
    where
      to : (a : AccessNumbers) → UpTo words a → Each a
      to a (k, x, within, at, is) = (k, x, within, at, is.told)

      from : (a : AccessNumbers) → Each a → UpTo words a
      from a (k, x, within, at, is) =
          let told = is.told in
          let low = (known told.place told.key told.line told.target told.among).among in
          (k, x, within, at, record { told = is; low = omega (arith, low, past) })

-- ---- lines

module _ (numbers : List ℕ) (lines : Keyed) where
  pub known-now : ArePresentNumbered numbers (count_now lines) → AreKnownIn numbers lines (now_at lines)
  known-now numbered place key line t some = numbered key t (subst (λ n. 0 < n) (line.now t) some)

  pub in-present : (old new : List Chunk) → AreGained (IsListedIn numbers lines) old new
      → AreGained (IsPresent numbers (listed (count_now lines))) old new
  in-present old new gained =
      gained-alike (IsListedIn numbers lines) (IsPresent numbers (listed (count_now lines))) old new
      gained to from
    where
      -- the counters of a listing, where a kind is told to be part of it or not to be
      counted : (key : SymbolKey) (t : ℕ) (b : Bool) → is_listed key.kind ≡ b
          → listed (count_now lines) key t ≡ cond b (count_now lines key t) 0
      counted key t b is = ap (λ l. cond l (count_now lines key t) 0) is

      to : (a : AccessNumbers) → IsListedIn numbers lines a → IsPresent numbers (listed (count_now lines)) a
      to a one =
          let told = one.told in
          let some = subst (λ n. 0 < n) (told.line.now told.target) told.among in
          record {
            key = told.key;
            target = told.target;
            absent = refl;
            present = subst (λ n. 0 < n) (sym (counted told.key told.target true one.listed)) some;
            same = told.same;
          }

      from : (a : AccessNumbers) → IsPresent numbers (listed (count_now lines)) a → IsListedIn numbers lines a
      from a told = by (is_listed told.key.kind) refl
        where
          by : (b : Bool) → is_listed told.key.kind ≡ b → IsListedIn numbers lines a
          by true is =
              let some = subst (λ n. 0 < n) (counted told.key told.target true is) told.present in
              let (l, line) = line-now lines told.key told.target some in
              record {
                told = record {
                  place = l;
                  key = told.key;
                  line = line;
                  target = told.target;
                  among = subst (λ n. 0 < n) (sym (line.now told.target)) some;
                  same = told.same;
                };
                listed = is;
              }
          by false is =
              let some = told.present in
              let none = counted told.key told.target false is in
              absurd (omega (arith, some, none))
