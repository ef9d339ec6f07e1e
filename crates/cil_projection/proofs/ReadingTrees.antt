-- Parts whose marks, without places, are those of trees spell such trees.
use Rattle.cil_specs.proofs.Common.{◌≡◌, ℕ, ◌+◌, ◌<◌, ◌≤◌, true, List, [], ◌∷◌, ◌++◌, length, drop, refl, ap, sym, ◌∙◌, subst, append_assoc, append-nil, arith, Part, white, comment, word, string, opening, closing, spelling, Splits, Nests, place_at, Mark, word_at, string_at, opening_at, closing_before, told}
use Rattle.std.proofs.Math.Seq.{drop-length}
use Rattle.std.proofs.lemmas.Bool.{true≢false}
use Rattle.cil_specs.specs.Place.{Place}
use Rattle.cil_specs.specs.Trees.{Trees, Reads, none, a_word, a_string, a_list, are_lists, marks}
use Rattle.cil_specs.proofs.PartLemmas.{size}
use Rattle.cil_projection.specs.Readings.{nowhere, without_places, depth}
use Rattle.cil_projection.proofs.ReadingParts.{HasMark, tokens}

-- Parts at an offset, where these lists are open: first those of trees that are the same but for places, which leave the lists open that were
-- open, and then others with these marks.
record Spells (bytes : List ℕ) (lists : List ℕ) (at : ℕ) (parts : List Part) (shape : Trees) (seen : List Mark) : Type 0 where
  front : List Part
  more : List Part
  parts_are : parts ≡ front ++ more
  nests : Nests lists at front lists
  trees : Trees
  told_is : told bytes at front ≡ marks trees
  same : without_places trees ≡ shape
  left : tokens more ≡ seen

nests_append : (lists : List ℕ) (at : ℕ) (ps qs : List Part) (middle new : List ℕ) → Nests lists at ps middle → Nests middle (at + size ps) qs new → Nests lists at (ps ++ qs) new
nests_append lists at [] qs middle new first second =
    subst (λ l. Nests l at qs new) first (subst (λ n. Nests middle n qs new) (let e : at + 0 ≡ at = omega arith in e) second)
nests_append lists at (p ∷ ps) qs middle new first second =
    let n : ℕ = length (spelling p) in
    (first.0, first.1, nests_append first.0 (at + n) ps qs middle new first.2 (subst (λ k. Nests middle k qs new) (let e : at + (n + size ps) ≡ (at + n) + size ps = omega arith in e) second))

told_append : (bytes : List ℕ) (at : ℕ) (ps qs : List Part) → told bytes at (ps ++ qs) ≡ told bytes at ps ++ told bytes (at + size ps) qs
told_append bytes at [] qs = ap (λ n. told bytes n qs) (let e : at ≡ at + 0 = omega arith in e)
told_append bytes at (white b ∷ ps) qs = told_append bytes (at + 1) ps qs ∙ ap (λ n. told bytes (at + 1) ps ++ told bytes n qs) (let e : (at + 1) + size ps ≡ at + (1 + size ps) = omega arith in e)
told_append bytes at (comment text ∷ ps) qs =
    let n : ℕ = length (spelling (comment text)) in
    told_append bytes (at + n) ps qs ∙ ap (λ k. told bytes (at + n) ps ++ told bytes k qs) (let e : (at + n) + size ps ≡ at + (n + size ps) = omega arith in e)
told_append bytes at (word text ∷ ps) qs =
    let n : ℕ = length text in
    ap (λ l. word_at (place_at bytes at) text ∷ l) (told_append bytes (at + n) ps qs ∙ ap (λ k. told bytes (at + n) ps ++ told bytes k qs) (let e : (at + n) + size ps ≡ at + (n + size ps) = omega arith in e))
told_append bytes at (string text ∷ ps) qs =
    let n : ℕ = length (spelling (string text)) in
    ap (λ l. string_at (place_at bytes at) (spelling (string text)) ∷ l)
    (told_append bytes (at + n) ps qs ∙ ap (λ k. told bytes (at + n) ps ++ told bytes k qs) (let e : (at + n) + size ps ≡ at + (n + size ps) = omega arith in e))
told_append bytes at (opening ∷ ps) qs =
    ap (λ l. opening_at (place_at bytes at) ∷ l) (told_append bytes (at + 1) ps qs ∙ ap (λ n. told bytes (at + 1) ps ++ told bytes n qs) (let e : (at + 1) + size ps ≡ at + (1 + size ps) = omega arith in e))
told_append bytes at (closing ∷ ps) qs =
    ap (λ l. closing_before (at + 1) ∷ l) (told_append bytes (at + 1) ps qs ∙ ap (λ n. told bytes (at + 1) ps ++ told bytes n qs) (let e : (at + 1) + size ps ≡ at + (1 + size ps) = omega arith in e))

-- parts without marks
quiet_nests : (lists : List ℕ) (at : ℕ) (parts : List Part) → tokens parts ≡ [] → Nests lists at parts lists
quiet_nests lists at [] quiet = refl
quiet_nests lists at (white b ∷ parts) quiet = (lists, refl, quiet_nests lists (at + 1) parts quiet)
quiet_nests lists at (comment text ∷ parts) quiet = (lists, refl, quiet_nests lists (at + length (spelling (comment text))) parts quiet)
quiet_nests lists at (_ ∷ parts) quiet = absurd (cc)

quiet_told : (bytes : List ℕ) (at : ℕ) (parts : List Part) → tokens parts ≡ [] → told bytes at parts ≡ []
quiet_told bytes at [] quiet = refl
quiet_told bytes at (white b ∷ parts) quiet = quiet_told bytes (at + 1) parts quiet
quiet_told bytes at (comment text ∷ parts) quiet = quiet_told bytes (at + length (spelling (comment text))) parts quiet
quiet_told bytes at (_ ∷ parts) quiet = absurd (cc)

-- the first part that has one
record Next (parts : List Part) (seen : List Mark) : Type 0 where
  gap : List Part
  part : Part
  more : List Part
  parts_are : parts ≡ gap ++ part ∷ more
  quiet : tokens gap ≡ []
  has : HasMark part
  seen_is : tokens (part ∷ more) ≡ seen

next : (parts : List Part) (mark : Mark) (seen : List Mark) → tokens parts ≡ mark ∷ seen → Next parts (mark ∷ seen)
next [] mark seen is = absurd (cc)
next (white b ∷ parts) mark seen is =
    let n = next parts mark seen is in
    record { gap = white b ∷ n.gap; part = n.part; more = n.more; parts_are = ap (λ l. white b ∷ l) n.parts_are; quiet = n.quiet; has = n.has; seen_is = n.seen_is }
next (comment text ∷ parts) mark seen is =
    let n = next parts mark seen is in
    record { gap = comment text ∷ n.gap; part = n.part; more = n.more; parts_are = ap (λ l. comment text ∷ l) n.parts_are; quiet = n.quiet; has = n.has; seen_is = n.seen_is }
next (word text ∷ parts) mark seen is = record { gap = []; part = word text; more = parts; parts_are = refl; quiet = refl; has = tt; seen_is = is }
next (string text ∷ parts) mark seen is = record { gap = []; part = string text; more = parts; parts_are = refl; quiet = refl; has = tt; seen_is = is }
next (opening ∷ parts) mark seen is = record { gap = []; part = opening; more = parts; parts_are = refl; quiet = refl; has = tt; seen_is = is }
next (closing ∷ parts) mark seen is = record { gap = []; part = closing; more = parts; parts_are = refl; quiet = refl; has = tt; seen_is = is }

-- the lists that are open and those of trees are few enough
abbrev Fits : List ℕ → Trees → Type 0
Fits lists shape = depth shape + length lists ≤ 256

-- parts with the marks of these trees spell them, whatever comes behind
abbrev Spell : List ℕ → Trees → Type 0
Spell bytes shape = (lists : List ℕ) (at : ℕ) (parts : List Part) (seen : List Mark) → tokens parts ≡ marks shape ++ seen → (lists ≡ [] → are_lists shape ≡ true) → Fits lists shape
    → Spells bytes lists at parts shape seen

-- parts without marks in front
after_gap : (bytes : List ℕ) (lists : List ℕ) (at : ℕ) (gap parts : List Part) (shape : Trees) (seen : List Mark) → tokens gap ≡ [] → Spells bytes lists (at + size gap) parts shape seen
    → Spells bytes lists at (gap ++ parts) shape seen
after_gap bytes lists at gap parts shape seen quiet s = record {
  front = gap ++ s.front;
  more = s.more;
  parts_are = ap (λ l. gap ++ l) s.parts_are ∙ sym (append_assoc gap s.front s.more);
  nests = nests_append lists at gap s.front lists lists (quiet_nests lists at gap quiet) s.nests;
  trees = s.trees;
  told_is = told_append bytes at gap s.front ∙ (λ i. quiet_told bytes at gap quiet i ++ s.told_is i);
  same = s.same;
  left = s.left;
}

-- a part with this mark, and what spells the trees behind it, spell these trees
abbrev FirstSpells : List ℕ → Trees → Mark → Trees → Type 0
FirstSpells bytes shape mark behind = Spell bytes behind → (lists : List ℕ) (at : ℕ) (part : Part) (more : List Part) (seen : List Mark) → HasMark part
    → tokens (part ∷ more) ≡ mark ∷ (marks behind ++ seen) → (lists ≡ [] → ⊥) → Fits lists behind → Spells bytes lists at (part ∷ more) shape seen

word_spells : (bytes : List ℕ) (spot : Place) (text : List ℕ) (behind : Trees) → FirstSpells bytes (a_word spot text behind) (word_at spot text) behind
word_spells bytes spot text behind go lists at (white b) more seen has is some fits = absurd has
word_spells bytes spot text behind go lists at (comment x) more seen has is some fits = absurd has
word_spells bytes spot text behind go lists at (word x) more seen has is some fits =
    let spot_is : nowhere ≡ spot = cc in
    let text_is : x ≡ text = cc in
    let s = go lists (at + length x) more seen (ap (drop 1) is) (λ out. absurd (some out)) fits in
    record {
      front = word x ∷ s.front;
      more = s.more;
      parts_are = ap (λ l. word x ∷ l) s.parts_are;
      nests = (lists, (some, refl), s.nests);
      trees = a_word (place_at bytes at) x s.trees;
      told_is = ap (λ l. word_at (place_at bytes at) x ∷ l) s.told_is;
      same = λ i. a_word (spot_is i) (text_is i) (s.same i);
      left = s.left;
    }
word_spells bytes spot text behind go lists at _ more seen has is some fits = absurd (cc)

string_spells : (bytes : List ℕ) (spot : Place) (text : List ℕ) (behind : Trees) → FirstSpells bytes (a_string spot text behind) (string_at spot text) behind
string_spells bytes spot text behind go lists at (white b) more seen has is some fits = absurd has
string_spells bytes spot text behind go lists at (comment x) more seen has is some fits = absurd has
string_spells bytes spot text behind go lists at (string x) more seen has is some fits =
    let spot_is : nowhere ≡ spot = cc in
    let text_is : spelling (string x) ≡ text = cc in
    let s = go lists (at + length (spelling (string x))) more seen (ap (drop 1) is) (λ out. absurd (some out)) fits in
    record {
      front = string x ∷ s.front;
      more = s.more;
      parts_are = ap (λ l. string x ∷ l) s.parts_are;
      nests = (lists, (some, refl), s.nests);
      trees = a_string (place_at bytes at) (spelling (string x)) s.trees;
      told_is = ap (λ l. string_at (place_at bytes at) (spelling (string x)) ∷ l) s.told_is;
      same = λ i. a_string (spot_is i) (text_is i) (s.same i);
      left = s.left;
    }
string_spells bytes spot text behind go lists at _ more seen has is some fits = absurd (cc)

-- the ) of a list, and the trees behind it
record Closes (bytes : List ℕ) (lists : List ℕ) (here at : ℕ) (parts : List Part) (end : ℕ) (behind : Trees) (seen : List Mark) : Type 0 where
  front : List Part
  more : List Part
  parts_are : parts ≡ front ++ more
  nests : Nests (here ∷ lists) at front lists
  last : ℕ
  trees : Trees
  told_is : told bytes at front ≡ closing_before last ∷ marks trees
  end_is : 0 ≡ end
  same : without_places trees ≡ behind
  left : tokens more ≡ seen

closing_spells : (bytes : List ℕ) (end : ℕ) (behind : Trees) → Spell bytes behind → (lists : List ℕ) (here at : ℕ) (part : Part) (more : List Part) (seen : List Mark) → HasMark part
    → tokens (part ∷ more) ≡ closing_before end ∷ (marks behind ++ seen) → (lists ≡ [] → are_lists behind ≡ true) → Fits lists behind → Closes bytes lists here at (part ∷ more) end behind seen
closing_spells bytes end behind go lists here at (white b) more seen has is some fits = absurd has
closing_spells bytes end behind go lists here at (comment x) more seen has is some fits = absurd has
closing_spells bytes end behind go lists here at closing more seen has is some fits =
    let end_is : 0 ≡ end = cc in
    let s = go lists (at + 1) more seen (ap (drop 1) is) some fits in
    record {
      front = closing ∷ s.front;
      more = s.more;
      parts_are = ap (λ l. closing ∷ l) s.parts_are;
      nests = (lists, (here, refl), s.nests);
      last = at + 1;
      trees = s.trees;
      told_is = ap (λ l. closing_before (at + 1) ∷ l) s.told_is;
      end_is = end_is;
      same = s.same;
      left = s.left;
    }
closing_spells bytes end behind go lists here at _ more seen has is some fits = absurd (cc)

-- with parts without marks in front
closes_after : (bytes : List ℕ) (lists : List ℕ) (here at : ℕ) (gap parts : List Part) (end : ℕ) (behind : Trees) (seen : List Mark) → tokens gap ≡ [] → Closes bytes lists here (at + size gap) parts end behind seen
    → Closes bytes lists here at (gap ++ parts) end behind seen
closes_after bytes lists here at gap parts end behind seen quiet s = record {
  front = gap ++ s.front;
  more = s.more;
  parts_are = ap (λ l. gap ++ l) s.parts_are ∙ sym (append_assoc gap s.front s.more);
  nests = nests_append (here ∷ lists) at gap s.front (here ∷ lists) lists (quiet_nests (here ∷ lists) at gap quiet) s.nests;
  last = s.last;
  trees = s.trees;
  told_is = told_append bytes at gap s.front ∙ (λ i. quiet_told bytes at gap quiet i ++ s.told_is i);
  end_is = s.end_is;
  same = s.same;
  left = s.left;
}

-- the first part with a mark is a ), and the trees behind it follow
first_closes : (bytes : List ℕ) (end : ℕ) (behind : Trees) → Spell bytes behind → (lists : List ℕ) (here at : ℕ) (parts : List Part) (seen : List Mark) → Next parts (closing_before end ∷ (marks behind ++ seen))
    → (lists ≡ [] → are_lists behind ≡ true) → Fits lists behind → Closes bytes lists here at parts end behind seen
first_closes bytes end behind go lists here at parts seen n some fits =
    subst (λ l. Closes bytes lists here at l end behind seen) (sym n.parts_are)
    (closes_after bytes lists here at n.gap (n.part ∷ n.more) end behind seen n.quiet
    (closing_spells bytes end behind go lists here (at + size n.gap) n.part n.more seen n.has n.seen_is some fits))

-- a whole list, and the trees behind it
list_done : (bytes : List ℕ) (spot : Place) (end : ℕ) (items behind : Trees) (lists : List ℕ) (at : ℕ) (more : List Part) (seen : List Mark) → nowhere ≡ spot → length lists < 256
    → (inside : Spells bytes (at ∷ lists) (at + 1) more items (closing_before end ∷ (marks behind ++ seen))) → Closes bytes lists at ((at + 1) + size inside.front) inside.more end behind seen
    → Spells bytes lists at (opening ∷ more) (a_list spot end items behind) seen
list_done bytes spot end items behind lists at more seen spot_is few inside close = record {
  front = opening ∷ (inside.front ++ close.front);
  more = close.more;
  parts_are = ap (λ l. opening ∷ l) (inside.parts_are ∙ ap (λ l. inside.front ++ l) close.parts_are ∙ sym (append_assoc inside.front close.front close.more));
  nests = (at ∷ lists, (few, refl), nests_append (at ∷ lists) (at + 1) inside.front close.front (at ∷ lists) lists inside.nests close.nests);
  trees = a_list (place_at bytes at) close.last inside.trees close.trees;
  told_is = ap (λ l. opening_at (place_at bytes at) ∷ l) (told_append bytes (at + 1) inside.front close.front ∙ (λ i. inside.told_is i ++ close.told_is i));
  same = λ i. a_list (spot_is i) (close.end_is i) (inside.same i) (close.same i);
  left = close.left;
}

list_spells : (bytes : List ℕ) (spot : Place) (end : ℕ) (items behind : Trees) → Spell bytes items → Spell bytes behind → (lists : List ℕ) (at : ℕ) (part : Part) (more : List Part) (seen : List Mark) → HasMark part
    → tokens (part ∷ more) ≡ opening_at spot ∷ (marks items ++ closing_before end ∷ (marks behind ++ seen)) → (lists ≡ [] → are_lists behind ≡ true) → Fits lists (a_list spot end items behind)
    → Spells bytes lists at (part ∷ more) (a_list spot end items behind) seen
list_spells bytes spot end items behind go_in go lists at (white b) more seen has is some fits = absurd has
list_spells bytes spot end items behind go_in go lists at (comment x) more seen has is some fits = absurd has
list_spells bytes spot end items behind go_in go lists at (word x) more seen has is some fits = absurd (cc)
list_spells bytes spot end items behind go_in go lists at (string x) more seen has is some fits = absurd (cc)
list_spells bytes spot end items behind go_in go lists at closing more seen has is some fits = absurd (cc)
list_spells bytes spot end items behind go_in go lists at opening more seen has is some fits =
    let spot_is : nowhere ≡ spot = cc in
    let inside = go_in (at ∷ lists) (at + 1) more (closing_before end ∷ (marks behind ++ seen)) (ap (drop 1) is) (λ out. absurd (cc)) (omega (arith, fits)) in
    let here : ℕ = (at + 1) + size inside.front in
    let close = first_closes bytes end behind go lists at here inside.more seen (next inside.more (closing_before end) (marks behind ++ seen) inside.left) some (omega (arith, fits)) in
    list_done bytes spot end items behind lists at more seen spot_is (omega (arith, fits)) inside close

spell : (bytes : List ℕ) (shape : Trees) → Spell bytes shape
spell bytes none lists at parts seen is some fits = record { front = []; more = parts; parts_are = refl; nests = refl; trees = none; told_is = refl; same = refl; left = is }
spell bytes (a_word spot text behind) lists at parts seen is some fits =
    let n = next parts (word_at spot text) (marks behind ++ seen) is in
    subst (λ l. Spells bytes lists at l (a_word spot text behind) seen) (sym n.parts_are)
    (after_gap bytes lists at n.gap (n.part ∷ n.more) (a_word spot text behind) seen n.quiet
    (word_spells bytes spot text behind (spell bytes behind) lists (at + size n.gap) n.part n.more seen n.has n.seen_is (λ out. true≢false (sym (some out))) fits))
spell bytes (a_string spot text behind) lists at parts seen is some fits =
    let n = next parts (string_at spot text) (marks behind ++ seen) is in
    subst (λ l. Spells bytes lists at l (a_string spot text behind) seen) (sym n.parts_are)
    (after_gap bytes lists at n.gap (n.part ∷ n.more) (a_string spot text behind) seen n.quiet
    (string_spells bytes spot text behind (spell bytes behind) lists (at + size n.gap) n.part n.more seen n.has n.seen_is (λ out. true≢false (sym (some out))) fits))
spell bytes (a_list spot end items behind) lists at parts seen is some fits =
    let goes : tokens parts ≡ opening_at spot ∷ (marks items ++ closing_before end ∷ (marks behind ++ seen)) =
    is ∙ ap (λ l. opening_at spot ∷ l) (append_assoc (marks items) (closing_before end ∷ marks behind) seen) in
    let n = next parts (opening_at spot) (marks items ++ closing_before end ∷ (marks behind ++ seen)) goes in
    subst (λ l. Spells bytes lists at l (a_list spot end items behind) seen) (sym n.parts_are)
    (after_gap bytes lists at n.gap (n.part ∷ n.more) (a_list spot end items behind) seen n.quiet
    (list_spells bytes spot end items behind (spell bytes items) (spell bytes behind) lists (at + size n.gap) n.part n.more seen n.has n.seen_is some fits))

-- bytes of parts with the marks of lists that nest no deeper than a text may spell them
pub shape_read : (bytes : List ℕ) (parts : List Part) (shape : Trees) → Splits bytes parts [] → tokens parts ≡ marks shape → are_lists shape ≡ true → depth shape ≤ 256
    → (found : Trees) × Reads bytes found × (without_places found ≡ shape)
shape_read bytes parts shape splits is lists shallow =
    let s = spell bytes shape [] 0 parts [] (is ∙ sym (append-nil (marks shape))) (λ out. lists) (omega (arith, shallow)) in
    let splits_all : Splits bytes (s.front ++ s.more) [] = subst (λ l. Splits bytes l []) s.parts_are splits in (
      s.trees,
      (
        s.front ++ s.more,
        record {
          within = omega arith;
          splits = subst (Splits bytes (s.front ++ s.more)) (sym (drop-length bytes)) splits_all;
          nests = nests_append [] 0 s.front s.more [] [] s.nests (quiet_nests [] (0 + size s.front) s.more s.left);
        },
        told_append bytes 0 s.front s.more ∙ (λ i. s.told_is i ++ quiet_told bytes (0 + size s.front) s.more s.left i) ∙ append-nil (marks s.trees),
      ),
      s.same,
    )
