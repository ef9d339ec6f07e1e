-- Where the trees of a text lie in it.
use Rattle.cil_specs.proofs.Common.{◌≡◌, ℕ, ◌+◌, true, List, [], ◌∷◌, ◌++◌, length, drop, refl, ap, sym, ◌∙◌, subst, append_assoc, append-nil, arith, Part, white, comment, word, string, opening, closing, spelling, Splits, Nests, place_at, Mark, word_at, string_at, opening_at, closing_before, told}
use Rattle.cil_specs.specs.Place.{Place}
use Rattle.cil_specs.specs.Trees.{Trees, Reads, none, a_word, a_string, a_list, are_lists, marks}
use Rattle.cil_projection.specs.Readings.{nowhere, without_places}
use Rattle.cil_projection.proofs.ReadingPieces.{AreGood}
use Rattle.cil_projection.proofs.ReadingParts.{HasMark, IsWord, Between, between_append, one_step, tokens, tokens_append}

-- Between two offsets of a text lie these trees, and but for white bytes and comments nothing else.
abbrev pub Lies : List ℕ → ℕ → Trees → ℕ → Type 0
Lies text from none to = (gap : List Part) × Between text from gap to × (tokens gap ≡ [])
Lies text from (a_word at bytes rest) to = (gap : List Part) × Between text from gap at.offset × (tokens gap ≡ [])
    × Between text at.offset (word bytes ∷ []) (at.offset + length bytes) × Lies text (at.offset + length bytes) rest to
Lies text from (a_string at bytes rest) to = (gap : List Part) × Between text from gap at.offset × (tokens gap ≡ [])
    × (inner : List ℕ) × (bytes ≡ spelling (string inner)) × Between text at.offset (string inner ∷ []) (at.offset + length bytes) × Lies text (at.offset + length bytes) rest to
Lies text from (a_list at end items rest) to = (gap : List Part) × Between text from gap at.offset × (tokens gap ≡ [])
    × Between text at.offset (opening ∷ []) (at.offset + 1) × (inner : ℕ) × Lies text (at.offset + 1) items inner × Between text inner (closing ∷ []) end × Lies text end rest to

-- parts without marks behind them
pub lies_further : (text : List ℕ) (from : ℕ) (trees : Trees) (to : ℕ) (more : List Part) (end : ℕ) → Lies text from trees to → Between text to more end → tokens more ≡ [] → Lies text from trees end
lies_further text from none to more end lies behind quiet =
    (lies.0 ++ more, between_append text from lies.0 to more end lies.1 behind, tokens_append lies.0 more ∙ ap (λ l. l ++ tokens more) lies.2 ∙ quiet)
lies_further text from (a_word at bytes rest) to more end lies behind quiet =
    (lies.0, lies.1, lies.2, lies.3, lies_further text (at.offset + length bytes) rest to more end lies.4 behind quiet)
lies_further text from (a_string at bytes rest) to more end lies behind quiet =
    (lies.0, lies.1, lies.2, lies.3, lies.4, lies.5, lies_further text (at.offset + length bytes) rest to more end lies.6 behind quiet)
lies_further text from (a_list at close items rest) to more end lies behind quiet =
    (lies.0, lies.1, lies.2, lies.3, lies.4, lies.5, lies.6, lies_further text close rest to more end lies.7 behind quiet)

-- the parts of a text between two offsets where trees lie
pub lies_parts : (text : List ℕ) (from : ℕ) (trees : Trees) (to : ℕ) → Lies text from trees to → (parts : List Part) × Between text from parts to × (tokens parts ≡ marks (without_places trees))
lies_parts text from none to lies = lies
lies_parts text from (a_word at bytes rest) to lies =
    let more = lies_parts text (at.offset + length bytes) rest to lies.4 in (
      lies.0 ++ word bytes ∷ more.0,
      between_append text from lies.0 at.offset (word bytes ∷ more.0) to lies.1 (between_append text at.offset (word bytes ∷ []) (at.offset + length bytes) more.0 to lies.3 more.1),
      tokens_append lies.0 (word bytes ∷ more.0) ∙ ap (λ l. l ++ word_at nowhere bytes ∷ tokens more.0) lies.2 ∙ ap (λ l. word_at nowhere bytes ∷ l) more.2,
    )
lies_parts text from (a_string at bytes rest) to lies =
    let more = lies_parts text (at.offset + length bytes) rest to lies.6 in (
      lies.0 ++ string lies.3 ∷ more.0,
      between_append text from lies.0 at.offset (string lies.3 ∷ more.0) to lies.1 (between_append text at.offset (string lies.3 ∷ []) (at.offset + length bytes) more.0 to lies.5 more.1),
      tokens_append lies.0 (string lies.3 ∷ more.0) ∙ ap (λ l. l ++ string_at nowhere (spelling (string lies.3)) ∷ tokens more.0) lies.2
          ∙ ap (λ l. string_at nowhere l ∷ tokens more.0) (sym lies.4) ∙ ap (λ l. string_at nowhere bytes ∷ l) more.2,
    )
lies_parts text from (a_list at end items rest) to lies =
    let inside = lies_parts text (at.offset + 1) items lies.4 lies.5 in
    let more = lies_parts text end rest to lies.7 in
    let behind : Between text lies.4 (closing ∷ more.0) to = between_append text lies.4 (closing ∷ []) end more.0 to lies.6 more.1 in
    let whole : List Part = inside.0 ++ closing ∷ more.0 in (
      lies.0 ++ opening ∷ whole,
      between_append text from lies.0 at.offset (opening ∷ whole) to lies.1
          (between_append text at.offset (opening ∷ []) (at.offset + 1) whole to lies.3 (between_append text (at.offset + 1) inside.0 lies.4 (closing ∷ more.0) to inside.1 behind)),
      tokens_append lies.0 (opening ∷ whole) ∙ ap (λ l. l ++ opening_at nowhere ∷ tokens whole) lies.2
          ∙ ap (λ l. opening_at nowhere ∷ l) (tokens_append inside.0 (closing ∷ more.0) ∙ (λ i. inside.2 i ++ closing_before 0 ∷ more.2 i)),
    )

-- the words of trees that lie in a text are words
pub lies_good : (text : List ℕ) (from : ℕ) (trees : Trees) (to : ℕ) → Lies text from trees to → AreGood IsWord trees
lies_good text from none to lies = tt
lies_good text from (a_word at bytes rest) to lies = (lies.3.2, lies_good text (at.offset + length bytes) rest to lies.4)
lies_good text from (a_string at bytes rest) to lies = lies_good text (at.offset + length bytes) rest to lies.6
lies_good text from (a_list at end items rest) to lies = (lies_good text (at.offset + 1) items lies.4 lies.5, lies_good text end rest to lies.7)

-- The first part of a text from an offset on that has a mark, and what stands before it.
record First (text : List ℕ) (at : ℕ) (rest lists new : List ℕ) (seen : List Mark) : Type 0 where
  gap : List Part
  here : ℕ
  part : Part
  more : List Part
  before : Between text at gap here
  quiet : tokens gap ≡ []
  solid : HasMark part
  splits : Splits (drop here text) (part ∷ more) rest
  told_is : told text here (part ∷ more) ≡ seen
  nests : Nests lists here (part ∷ more) new

-- with a part without a mark in front
further : (text : List ℕ) (at : ℕ) (rest lists new : List ℕ) (seen : List Mark) (part : Part) → tokens (part ∷ []) ≡ [] → Between text at (part ∷ []) (at + length (spelling part))
    → First text (at + length (spelling part)) rest lists new seen → First text at rest lists new seen
further text at rest lists new seen part quiet goes first = record {
  gap = part ∷ first.gap;
  here = first.here;
  part = first.part;
  more = first.more;
  before = between_append text at (part ∷ []) (at + length (spelling part)) first.gap first.here goes first.before;
  quiet = tokens_append (part ∷ []) first.gap ∙ (λ i. quiet i ++ first.quiet i);
  solid = first.solid;
  splits = first.splits;
  told_is = first.told_is;
  nests = first.nests;
}

at_once : (text : List ℕ) (at : ℕ) (rest lists new : List ℕ) (seen : List Mark) (part : Part) (more : List Part) → HasMark part → Splits (drop at text) (part ∷ more) rest
    → told text at (part ∷ more) ≡ seen → Nests lists at (part ∷ more) new → First text at rest lists new seen
at_once text at rest lists new seen part more solid splits told_is nests = record {
  gap = [];
  here = at;
  part = part;
  more = more;
  before = refl;
  quiet = refl;
  solid = solid;
  splits = splits;
  told_is = told_is;
  nests = nests;
}

first : (text : List ℕ) (at : ℕ) (parts : List Part) (rest lists new : List ℕ) (mark : Mark) (seen : List Mark) → Splits (drop at text) parts rest → told text at parts ≡ mark ∷ seen
    → Nests lists at parts new → First text at rest lists new (mark ∷ seen)
first text at [] rest lists new mark seen splits told_is nests = absurd (cc)
first text at (white b ∷ parts) rest lists new mark seen splits told_is nests =
    let step = one_step text at (white b) parts rest splits in
    further text at rest lists new (mark ∷ seen) (white b) refl step.0
    (first text (at + 1) parts rest lists new mark seen step.1 told_is (subst (λ l. Nests l (at + 1) parts new) nests.1 nests.2))
first text at (comment bytes ∷ parts) rest lists new mark seen splits told_is nests =
    let step = one_step text at (comment bytes) parts rest splits in
    let to : ℕ = at + length (spelling (comment bytes)) in
    further text at rest lists new (mark ∷ seen) (comment bytes) refl step.0
    (first text to parts rest lists new mark seen step.1 told_is (subst (λ l. Nests l to parts new) nests.1 nests.2))
first text at (word bytes ∷ parts) rest lists new mark seen splits told_is nests = at_once text at rest lists new (mark ∷ seen) (word bytes) parts tt splits told_is nests
first text at (string bytes ∷ parts) rest lists new mark seen splits told_is nests = at_once text at rest lists new (mark ∷ seen) (string bytes) parts tt splits told_is nests
first text at (opening ∷ parts) rest lists new mark seen splits told_is nests = at_once text at rest lists new (mark ∷ seen) opening parts tt splits told_is nests
first text at (closing ∷ parts) rest lists new mark seen splits told_is nests = at_once text at rest lists new (mark ∷ seen) closing parts tt splits told_is nests

-- where nothing is told there are no marks
untold : (text : List ℕ) (at : ℕ) (parts : List Part) → told text at parts ≡ [] → tokens parts ≡ []
untold text at [] none_told = refl
untold text at (white b ∷ parts) none_told = untold text (at + 1) parts none_told
untold text at (comment bytes ∷ parts) none_told = untold text (at + length (spelling (comment bytes))) parts none_told
untold text at (_ ∷ parts) none_told = absurd (cc)

-- Trees lie in a text from an offset on, and then come other parts.
record LiesThen (text : List ℕ) (at : ℕ) (trees : Trees) (rest lists new : List ℕ) (seen : List Mark) : Type 0 where
  to : ℕ
  more : List Part
  lies : Lies text at trees to
  splits : Splits (drop to text) more rest
  told_is : told text to more ≡ seen
  nests : Nests lists to more new
  outside : lists ≡ [] → are_lists trees ≡ true

nowhere_left : (text : List ℕ) (at : ℕ) (parts : List Part) (rest lists new : List ℕ) (seen : List Mark) → Splits (drop at text) parts rest → told text at parts ≡ seen → Nests lists at parts new
    → LiesThen text at none rest lists new seen
nowhere_left text at parts rest lists new seen splits told_is nests = record {
  to = at;
  more = parts;
  lies = ([], refl, refl);
  splits = splits;
  told_is = told_is;
  nests = nests;
  outside = λ out. refl;
}

-- where these trees are told they lie, whatever comes behind them
abbrev LieThen : List ℕ → Trees → Type 0
LieThen text trees = (at : ℕ) (parts : List Part) (rest lists new : List ℕ) (seen : List Mark) → Splits (drop at text) parts rest → told text at parts ≡ marks trees ++ seen
    → Nests lists at parts new → LiesThen text at trees rest lists new seen

-- these trees lie where the next part has this mark, and others behind it
abbrev FirstLies : List ℕ → ℕ → Trees → Mark → Trees → Type 0
FirstLies text at trees mark behind = LieThen text behind → (rest lists new : List ℕ) (seen : List Mark) (gap : List Part) (here : ℕ) → Between text at gap here → tokens gap ≡ []
    → (part : Part) (more : List Part) → HasMark part → Splits (drop here text) (part ∷ more) rest → told text here (part ∷ more) ≡ mark ∷ (marks behind ++ seen)
    → Nests lists here (part ∷ more) new → LiesThen text at trees rest lists new seen

word_then : (text : List ℕ) (at : ℕ) (place : Place) (bytes : List ℕ) (behind : Trees) → FirstLies text at (a_word place bytes behind) (word_at place bytes) behind
word_then text at place bytes behind go rest lists new seen gap here before quiet (white b) more solid splits told_is nests = absurd solid
word_then text at place bytes behind go rest lists new seen gap here before quiet (comment x) more solid splits told_is nests = absurd solid
word_then text at place bytes behind go rest lists new seen gap here before quiet (word x) more solid splits told_is nests =
    let place_is : place_at text here ≡ place = cc in
    let bytes_are : x ≡ bytes = cc in
    let offset_is : here ≡ place.offset = ap (λ p. p.offset) place_is in
    let step = one_step text here (word x) more rest splits in
    let goes : Between text place.offset (word bytes ∷ []) (place.offset + length bytes) =
    subst (λ n. Between text n (word bytes ∷ []) (n + length bytes)) offset_is (subst (λ b. Between text here (word b ∷ []) (here + length b)) bytes_are step.0) in
    let to : here + length x ≡ place.offset + length bytes = omega (arith, offset_is, ap length bytes_are) in
    let after = go (place.offset + length bytes) more rest lists new seen (subst (λ n. Splits (drop n text) more rest) to step.1)
    (subst (λ n. told text n more ≡ marks behind ++ seen) to (ap (drop 1) told_is)) (subst (λ n. Nests lists n more new) to (subst (λ l. Nests l (here + length x) more new) nests.1.1 nests.2)) in
    record {
      to = after.to;
      more = after.more;
      lies = (gap, subst (Between text at gap) offset_is before, quiet, goes, after.lies);
      splits = after.splits;
      told_is = after.told_is;
      nests = after.nests;
      outside = λ out. absurd (nests.1.0 out);
    }
word_then text at place bytes behind go rest lists new seen gap here before quiet _ more solid splits told_is nests = absurd (cc)

string_then : (text : List ℕ) (at : ℕ) (place : Place) (bytes : List ℕ) (behind : Trees) → FirstLies text at (a_string place bytes behind) (string_at place bytes) behind
string_then text at place bytes behind go rest lists new seen gap here before quiet (white b) more solid splits told_is nests = absurd solid
string_then text at place bytes behind go rest lists new seen gap here before quiet (comment x) more solid splits told_is nests = absurd solid
string_then text at place bytes behind go rest lists new seen gap here before quiet (string x) more solid splits told_is nests =
    let place_is : place_at text here ≡ place = cc in
    let bytes_are : spelling (string x) ≡ bytes = cc in
    let offset_is : here ≡ place.offset = ap (λ p. p.offset) place_is in
    let step = one_step text here (string x) more rest splits in
    let to : here + length (spelling (string x)) ≡ place.offset + length bytes = omega (arith, offset_is, ap length bytes_are) in
    let goes : Between text place.offset (string x ∷ []) (place.offset + length bytes) =
    subst (λ n. Between text n (string x ∷ []) (place.offset + length bytes)) offset_is (subst (Between text here (string x ∷ [])) to step.0) in
    let after = go (place.offset + length bytes) more rest lists new seen (subst (λ n. Splits (drop n text) more rest) to step.1)
    (subst (λ n. told text n more ≡ marks behind ++ seen) to (ap (drop 1) told_is)) (subst (λ n. Nests lists n more new) to (subst (λ l. Nests l (here + length (spelling (string x))) more new) nests.1.1 nests.2)) in
    record {
      to = after.to;
      more = after.more;
      lies = (gap, subst (Between text at gap) offset_is before, quiet, x, sym bytes_are, goes, after.lies);
      splits = after.splits;
      told_is = after.told_is;
      nests = after.nests;
      outside = λ out. absurd (nests.1.0 out);
    }
string_then text at place bytes behind go rest lists new seen gap here before quiet _ more solid splits told_is nests = absurd (cc)

closing_then : (text : List ℕ) (at : ℕ) (place : Place) (end : ℕ) (items behind : Trees) → LieThen text behind → (rest lists new : List ℕ) (seen : List Mark) (gap : List Part) (here : ℕ) → Between text at gap place.offset → tokens gap ≡ []
    → Between text place.offset (opening ∷ []) (place.offset + 1) → (inner : ℕ) → Lies text (place.offset + 1) items inner
    → (part : Part) (more : List Part) → HasMark part → Splits (drop inner text) (part ∷ more) rest → told text inner (part ∷ more) ≡ closing_before end ∷ (marks behind ++ seen)
    → Nests (here ∷ lists) inner (part ∷ more) new → LiesThen text at (a_list place end items behind) rest lists new seen
closing_then text at place end items behind go rest lists new seen gap here before quiet opens inner lies (white b) more solid splits told_is nests = absurd solid
closing_then text at place end items behind go rest lists new seen gap here before quiet opens inner lies (comment x) more solid splits told_is nests = absurd solid
closing_then text at place end items behind go rest lists new seen gap here before quiet opens inner lies closing more solid splits told_is nests =
    let end_is : inner + 1 ≡ end = cc in
    let step = one_step text inner closing more rest splits in
    let same : lists ≡ nests.0 = ap (drop 1) nests.1.1 in
    let after = go end more rest lists new seen (subst (λ n. Splits (drop n text) more rest) end_is step.1)
    (subst (λ n. told text n more ≡ marks behind ++ seen) end_is (ap (drop 1) told_is)) (subst (λ n. Nests lists n more new) end_is (subst (λ l. Nests l (inner + 1) more new) (sym same) nests.2)) in
    record {
      to = after.to;
      more = after.more;
      lies = (gap, before, quiet, opens, inner, lies, subst (Between text inner (closing ∷ [])) end_is step.0, after.lies);
      splits = after.splits;
      told_is = after.told_is;
      nests = after.nests;
      outside = after.outside;
    }
closing_then text at place end items behind go rest lists new seen gap here before quiet opens inner lies _ more solid splits told_is nests = absurd (cc)

list_then : (text : List ℕ) (at : ℕ) (place : Place) (end : ℕ) (items behind : Trees) → LieThen text items → LieThen text behind → (rest lists new : List ℕ) (seen : List Mark) (gap : List Part) (here : ℕ) → Between text at gap here → tokens gap ≡ []
    → (part : Part) (more : List Part) → HasMark part → Splits (drop here text) (part ∷ more) rest
    → told text here (part ∷ more) ≡ opening_at place ∷ (marks items ++ closing_before end ∷ (marks behind ++ seen))
    → Nests lists here (part ∷ more) new → LiesThen text at (a_list place end items behind) rest lists new seen
list_then text at place end items behind go_in go rest lists new seen gap here before quiet (white b) more solid splits told_is nests = absurd solid
list_then text at place end items behind go_in go rest lists new seen gap here before quiet (comment x) more solid splits told_is nests = absurd solid
list_then text at place end items behind go_in go rest lists new seen gap here before quiet (word x) more solid splits told_is nests = absurd (cc)
list_then text at place end items behind go_in go rest lists new seen gap here before quiet (string x) more solid splits told_is nests = absurd (cc)
list_then text at place end items behind go_in go rest lists new seen gap here before quiet closing more solid splits told_is nests = absurd (cc)
list_then text at place end items behind go_in go rest lists new seen gap here before quiet opening more solid splits told_is nests =
    let place_is : place_at text here ≡ place = cc in
    let offset_is : here ≡ place.offset = ap (λ p. p.offset) place_is in
    let step = one_step text here opening more rest splits in
    let goes : Between text place.offset (opening ∷ []) (place.offset + 1) = subst (λ n. Between text n (opening ∷ []) (n + 1)) offset_is step.0 in
    let inside = go_in (place.offset + 1) more rest (here ∷ lists) new (closing_before end ∷ (marks behind ++ seen))
    (subst (λ n. Splits (drop (n + 1) text) more rest) offset_is step.1)
    (subst (λ n. told text (n + 1) more ≡ marks items ++ closing_before end ∷ (marks behind ++ seen)) offset_is (ap (drop 1) told_is))
    (subst (λ n. Nests (here ∷ lists) (n + 1) more new) offset_is (subst (λ l. Nests l (here + 1) more new) nests.1.1 nests.2)) in
    let next = first text inside.to inside.more rest (here ∷ lists) new (closing_before end) (marks behind ++ seen) inside.splits inside.told_is inside.nests in
    closing_then text at place end items behind go rest lists new seen gap here (subst (Between text at gap) offset_is before) quiet goes
    next.here (lies_further text (place.offset + 1) items inside.to next.gap next.here inside.lies next.before next.quiet)
    next.part next.more next.solid next.splits next.told_is next.nests

lies_then : (text : List ℕ) (trees : Trees) → LieThen text trees
lies_then text none at parts rest lists new seen splits told_is nests = nowhere_left text at parts rest lists new seen splits told_is nests
lies_then text (a_word place bytes behind) at parts rest lists new seen splits told_is nests =
    let next = first text at parts rest lists new (word_at place bytes) (marks behind ++ seen) splits told_is nests in
    word_then text at place bytes behind (lies_then text behind) rest lists new seen next.gap next.here next.before next.quiet next.part next.more next.solid next.splits next.told_is next.nests
lies_then text (a_string place bytes behind) at parts rest lists new seen splits told_is nests =
    let next = first text at parts rest lists new (string_at place bytes) (marks behind ++ seen) splits told_is nests in
    string_then text at place bytes behind (lies_then text behind) rest lists new seen next.gap next.here next.before next.quiet next.part next.more next.solid next.splits next.told_is next.nests
lies_then text (a_list place end items behind) at parts rest lists new seen splits told_is nests =
    let goes : told text at parts ≡ opening_at place ∷ (marks items ++ closing_before end ∷ (marks behind ++ seen)) =
    told_is ∙ ap (λ l. opening_at place ∷ l) (append_assoc (marks items) (closing_before end ∷ marks behind) seen) in
    let next = first text at parts rest lists new (opening_at place) (marks items ++ closing_before end ∷ (marks behind ++ seen)) splits goes nests in
    list_then text at place end items behind (lies_then text items) (lies_then text behind) rest lists new seen next.gap next.here next.before next.quiet next.part next.more next.solid next.splits next.told_is next.nests

-- the trees of a text lie in it, and they are lists
pub reads_lie : (text : List ℕ) (trees : Trees) → Reads text trees → Lies text 0 trees (length text) × (are_lists trees ≡ true)
reads_lie text trees (parts, clean, told_is) =
    let all = lies_then text trees 0 parts (drop (length text) text) [] [] [] clean.splits (told_is ∙ sym (append-nil (marks trees))) clean.nests in
    (lies_further text 0 trees all.to all.more (length text) all.lies all.splits (untold text all.to all.more all.told_is), all.outside refl)
