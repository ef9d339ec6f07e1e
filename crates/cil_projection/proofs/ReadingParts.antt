-- Texts that are parts one after the other, piece by piece.
use Rattle.cil_specs.proofs.Common.{◌≡◌, ℕ, ◌+◌, ◌-◌, ◌<◌, ◌≤◌, Bool, true, false, List, [], ◌∷◌, ◌++◌, length, take, drop, map, refl, ap, sym, ◌∙◌, subst, append_assoc, append-nil, length-append, length-drop, arith, is_white, ◌==◌, cond, Part, white, comment, word, string, opening, closing, spelling, IsPart, EndsBefore, Splits, Mark, word_at, string_at, opening_at, closing_before}
use Rattle.std.proofs.lemmas.List.{drop-drop, drop_at, take_all}
use Rattle.std.proofs.Math.Seq.{take-append_seam}
use Rattle.std.proofs.lemmas.Bool.{true≢false}
use Rattle.cil_specs.specs.Bytes.{is_word_byte}
use Rattle.cil_specs.specs.Trees.{Trees, none, a_word, a_string, a_list, marks}
use Rattle.cil_specs.proofs.PartLemmas.{size, splits-size}
use Rattle.cil_specs.proofs.Fronts.{class-white, class-word}
use Rattle.cil_projection.specs.Pieces.{blank, part_of}
use Rattle.cil_projection.specs.Readings.{nowhere, followed_by}

pub splits_append : (bytes : List ℕ) (ps : List Part) (middle : List ℕ) (qs : List Part) (rest : List ℕ) → Splits bytes ps middle → Splits middle qs rest → Splits bytes (ps ++ qs) rest
splits_append bytes [] middle qs rest is more = subst (λ b. Splits b qs rest) (sym is) more
splits_append bytes (p ∷ ps) middle qs rest is more = (is.0, is.1, is.2, is.3, splits_append is.0 ps middle qs rest is.4 more)

-- bytes that are a word
abbrev pub IsWord : List ℕ → Type 0
IsWord bytes = IsPart (word bytes)

-- the bytes of parts
abbrev pub flat : List Part → List ℕ
flat [] = []
flat (part ∷ parts) = spelling part ++ flat parts

pub splits_flat : (bytes : List ℕ) (ps : List Part) (rest : List ℕ) → Splits bytes ps rest → bytes ≡ flat ps ++ rest
splits_flat bytes [] rest is = is
splits_flat bytes (p ∷ ps) rest is = is.1 ∙ ap (λ l. spelling p ++ l) (splits_flat is.0 ps rest is.4) ∙ sym (append_assoc (spelling p) (flat ps) rest)

-- what ends before some bytes ends before others
abbrev pub LastEnds : List Part → List ℕ → List ℕ → Type 0
LastEnds [] old new = Unit {0}
LastEnds (p ∷ []) old new = EndsBefore p old → EndsBefore p new
LastEnds (p ∷ q ∷ ps) old new = LastEnds (q ∷ ps) old new

-- a part ends by the first byte behind it
ends_same : (p q : Part) (old new : List ℕ) → IsPart q → EndsBefore p (spelling q ++ old) → EndsBefore p (spelling q ++ new)
ends_same p (white b) old new is ends = ends
ends_same p (comment text) old new is ends = ends
ends_same p (word []) old new is ends = absurd (is.0 refl)
ends_same p (word (b ∷ text)) old new is ends = ends
ends_same p (string text) old new is ends = ends
ends_same p opening old new is ends = ends
ends_same p closing old new is ends = ends

-- the same parts with other bytes behind them
pub splits_tail : (bytes : List ℕ) (ps : List Part) (old new : List ℕ) → Splits bytes ps old → LastEnds ps old new → Splits (flat ps ++ new) ps new
splits_tail bytes [] old new is ends = refl
splits_tail bytes (p ∷ []) old new is ends =
    (new, ap (λ l. l ++ new) (append-nil (spelling p)), is.2, ends (subst (EndsBefore p) is.4 is.3), refl)
splits_tail bytes (p ∷ q ∷ ps) old new is ends =
    let more = is.4 in (
      flat (q ∷ ps) ++ new,
      append_assoc (spelling p) (flat (q ∷ ps)) new,
      is.2,
      subst (EndsBefore p) (sym (append_assoc (spelling q) (flat ps) new))
          (ends_same p q more.0 (flat ps ++ new) more.2 (subst (EndsBefore p) more.1 is.3)),
      splits_tail is.0 (q ∷ ps) old new more ends,
    )

pub last_closed : (ps : List Part) (old new : List ℕ) → LastEnds (ps ++ closing ∷ []) old new
last_closed [] old [] = λ ends. tt
last_closed [] old (b ∷ new) = λ ends. refl
last_closed (p ∷ []) old new = last_closed [] old new
last_closed (p ∷ q ∷ ps) old new = last_closed (q ∷ ps) old new

pub last_all : (ps : List Part) (old new : List ℕ) → ((part : Part) → EndsBefore part old → EndsBefore part new) → LastEnds ps old new
last_all [] old new each = tt
last_all (p ∷ []) old new each = each p
last_all (p ∷ q ∷ ps) old new each = last_all (q ∷ ps) old new each

-- the first byte, if any, is none of a word
abbrev pub BeginsApart : List ℕ → Type 0
BeginsApart [] = Unit {0}
BeginsApart (b ∷ bytes) = is_word_byte b ≡ false

-- what ends before a ( ends before what doesn't go on with a word
pub ends_apart : (part : Part) (old new : List ℕ) → BeginsApart new → EndsBefore part (40 ∷ old) → EndsBefore part new
ends_apart part old [] apart ends = tt
ends_apart (white b) old (c ∷ new) apart ends = refl
ends_apart (comment text) old (c ∷ new) apart ends = absurd (true≢false ends)
ends_apart (word text) old (c ∷ new) apart ends = apart
ends_apart (string text) old (c ∷ new) apart ends = refl
ends_apart opening old (c ∷ new) apart ends = refl
ends_apart closing old (c ∷ new) apart ends = refl

-- whether there are parts, and the first is no word
abbrev pub StartsApart : List Part → Type 0
StartsApart [] = ⊥
StartsApart (white b ∷ parts) = Unit {0}
StartsApart (comment text ∷ parts) = Unit {0}
StartsApart (word text ∷ parts) = ⊥
StartsApart (string text ∷ parts) = Unit {0}
StartsApart (opening ∷ parts) = Unit {0}
StartsApart (closing ∷ parts) = Unit {0}

white_apart : (b : ℕ) → is_white b ≡ true → is_word_byte b ≡ false
white_apart b is = by (is_word_byte b) refl
  where
    by : (c : Bool) → is_word_byte b ≡ c → is_word_byte b ≡ false
    by true e = absurd (omega (arith, class-white b is, class-word b e))
    by false e = e

pub begins_apart : (bytes : List ℕ) (parts : List Part) (rest : List ℕ) → Splits bytes parts rest → StartsApart parts → BeginsApart bytes
begins_apart bytes [] rest is starts = absurd starts
begins_apart bytes (white b ∷ parts) rest is starts = subst BeginsApart (sym is.1) (white_apart b is.2)
begins_apart bytes (comment text ∷ parts) rest is starts = subst BeginsApart (sym is.1) refl
begins_apart bytes (word text ∷ parts) rest is starts = absurd starts
begins_apart bytes (string text ∷ parts) rest is starts = subst BeginsApart (sym is.1) refl
begins_apart bytes (opening ∷ parts) rest is starts = subst BeginsApart (sym is.1) refl
begins_apart bytes (closing ∷ parts) rest is starts = subst BeginsApart (sym is.1) refl

pub starts_append : (ps qs : List Part) → StartsApart ps → StartsApart (ps ++ qs)
starts_append [] qs starts = absurd starts
starts_append (white b ∷ ps) qs starts = tt
starts_append (comment text ∷ ps) qs starts = tt
starts_append (word text ∷ ps) qs starts = absurd starts
starts_append (string text ∷ ps) qs starts = tt
starts_append (opening ∷ ps) qs starts = tt
starts_append (closing ∷ ps) qs starts = tt

-- the marks of parts without their places
abbrev pub tokens : List Part → List Mark
tokens [] = []
tokens (white b ∷ parts) = tokens parts
tokens (comment text ∷ parts) = tokens parts
tokens (word text ∷ parts) = word_at nowhere text ∷ tokens parts
tokens (string text ∷ parts) = string_at nowhere (spelling (string text)) ∷ tokens parts
tokens (opening ∷ parts) = opening_at nowhere ∷ tokens parts
tokens (closing ∷ parts) = closing_before 0 ∷ tokens parts

-- whether a part has a mark
abbrev pub HasMark : Part → Type 0
HasMark (white b) = ⊥
HasMark (comment text) = ⊥
HasMark (word text) = Unit {0}
HasMark (string text) = Unit {0}
HasMark opening = Unit {0}
HasMark closing = Unit {0}

pub tokens_append : (ps qs : List Part) → tokens (ps ++ qs) ≡ tokens ps ++ tokens qs
tokens_append [] qs = refl
tokens_append (white b ∷ ps) qs = tokens_append ps qs
tokens_append (comment text ∷ ps) qs = tokens_append ps qs
tokens_append (word text ∷ ps) qs = ap (λ l. word_at nowhere text ∷ l) (tokens_append ps qs)
tokens_append (string text ∷ ps) qs = ap (λ l. string_at nowhere (spelling (string text)) ∷ l) (tokens_append ps qs)
tokens_append (opening ∷ ps) qs = ap (λ l. opening_at nowhere ∷ l) (tokens_append ps qs)
tokens_append (closing ∷ ps) qs = ap (λ l. closing_before 0 ∷ l) (tokens_append ps qs)

pub marks_followed : (s t : Trees) → marks (followed_by s t) ≡ marks s ++ marks t
marks_followed none t = refl
marks_followed (a_word at text rest) t = ap (λ l. word_at at text ∷ l) (marks_followed rest t)
marks_followed (a_string at text rest) t = ap (λ l. string_at at text ∷ l) (marks_followed rest t)
marks_followed (a_list at end items rest) t =
    ap (λ l. opening_at at ∷ l) (ap (λ l. marks items ++ closing_before end ∷ l) (marks_followed rest t)
    ∙ sym (append_assoc (marks items) (closing_before end ∷ marks rest) (marks t)))

-- the bytes of a text from one offset up to another are these parts
abbrev pub Between : List ℕ → ℕ → List Part → ℕ → Type 0
Between text from parts to = Splits (drop from text) parts (drop to text)

pub between_append : (text : List ℕ) (from : ℕ) (ps : List Part) (middle : ℕ) (qs : List Part) (to : ℕ) → Between text from ps middle → Between text middle qs to → Between text from (ps ++ qs) to
between_append text from ps middle qs to = splits_append (drop from text) ps (drop middle text) qs (drop to text)

size_flat : (parts : List Part) → length (flat parts) ≡ size parts
size_flat [] = refl
size_flat (part ∷ parts) = omega (arith, length-append (spelling part) (flat parts), size_flat parts)

-- the bytes between two offsets
pub part_is : (text : List ℕ) (from : ℕ) (parts : List Part) (to : ℕ) → Between text from parts to → part_of text from to ≡ flat parts
part_is text from parts to is =
    ap (take (to - from)) (splits_flat (drop from text) parts (drop to text) is) ∙ by (drop to text) refl
  where
    sizes : length (drop from text) ≡ size parts + length (drop to text)
    sizes = splits-size (drop from text) parts (drop to text) is

    by : (rest : List ℕ) → drop to text ≡ rest → take (to - from) (flat parts ++ rest) ≡ flat parts
    by [] ends =
        let few : size parts ≤ to - from = omega (arith, sizes, length-drop from text, length-drop to text, ap length ends) in
        ap (take (to - from)) (append-nil (flat parts)) ∙ take_all (to - from) (flat parts) (omega (arith, few, size_flat parts))
    by (b ∷ rest) ends =
        let some : 0 < length text - to = omega (arith, length-drop to text, ap length ends) in
        let here : to - from ≡ length (flat parts) = omega (arith, some, sizes, length-drop from text, length-drop to text, size_flat parts) in
        ap (λ n. take n (flat parts ++ b ∷ rest)) here ∙ take-append_seam (flat parts) (b ∷ rest)

-- bytes as they are
pub copied_splits : (text : List ℕ) (from : ℕ) (parts : List Part) (to : ℕ) (rest : List ℕ) → Between text from parts to → LastEnds parts (drop to text) rest
    → Splits (part_of text from to ++ rest) parts rest
copied_splits text from parts to rest is ends =
    subst (λ l. Splits (l ++ rest) parts rest) (sym (part_is text from parts to is)) (splits_tail (drop from text) parts (drop to text) rest is ends)

-- bytes that are blanked
abbrev pub blanks : List ℕ → List Part
blanks [] = []
blanks (b ∷ bytes) = white (blank b) ∷ blanks bytes

blank_white : (b : ℕ) → is_white (blank b) ≡ true
blank_white b = by (b == 10)
  where
    by : (c : Bool) → is_white (cond c 10 32) ≡ true
    by true = refl
    by false = refl

pub blanked_splits : (bytes rest : List ℕ) → Splits (map blank bytes ++ rest) (blanks bytes) rest
blanked_splits [] rest = refl
blanked_splits (b ∷ bytes) rest = (map blank bytes ++ rest, refl, blank_white b, ends (map blank bytes ++ rest), blanked_splits bytes rest)
  where
    ends : (tail : List ℕ) → EndsBefore (white (blank b)) tail
    ends [] = tt
    ends (c ∷ tail) = refl

pub blanks_tokens : (bytes : List ℕ) → tokens (blanks bytes) ≡ []
blanks_tokens [] = refl
blanks_tokens (b ∷ bytes) = blanks_tokens bytes

-- where parts are blanked something stays
pub blanks_start : (text : List ℕ) (from : ℕ) (parts : List Part) (to : ℕ) → Between text from parts to → StartsApart parts → StartsApart (blanks (part_of text from to))
blanks_start text from parts to is starts = subst (λ l. StartsApart (blanks l)) (sym (part_is text from parts to is)) (by parts starts)
  where
    by : (parts : List Part) → StartsApart parts → StartsApart (blanks (flat parts))
    by [] starts = absurd starts
    by (white b ∷ parts) starts = tt
    by (comment text ∷ parts) starts = tt
    by (word text ∷ parts) starts = absurd starts
    by (string text ∷ parts) starts = tt
    by (opening ∷ parts) starts = tt
    by (closing ∷ parts) starts = tt

-- the first part, and the offset behind it
pub one_step : (text : List ℕ) (at : ℕ) (part : Part) (more : List Part) (rest : List ℕ) → Splits (drop at text) (part ∷ more) rest
    → Between text at (part ∷ []) (at + length (spelling part)) × Splits (drop (at + length (spelling part)) text) more rest
one_step text at part more rest is =
    let here : is.0 ≡ drop (at + length (spelling part)) text =
    sym (drop_at (spelling part) is.0 (length (spelling part)) refl) ∙ ap (drop (length (spelling part))) (sym is.1) ∙ drop-drop (length (spelling part)) at text in
    ((is.0, is.1, is.2, is.3, here), subst (λ l. Splits l more rest) here is.4)
