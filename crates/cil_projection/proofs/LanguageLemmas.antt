-- Texts of the language are projected onto themselves.
use Rattle.std.specs.Prelude.{◌≡◌, ◌⊎◌, ℕ, ◌+◌, ◌-◌, ◌≤◌, Bool, true, false, cond, not, ◌&&◌, ◌||◌, List, [], ◌∷◌, ◌++◌, length, take, drop, codes, bytes_eq, None, IsTrue, refl}
use Rattle.std.specs.Cmp.{both_ways}
use Rattle.std.specs.List.{list_all}
use Rattle.std.proofs.Common.{inl, inr, ◌∙◌, sym, ap, arith, append_assoc, append-nil}
use Rattle.std.proofs.lemmas.Bool.{and_parts, not-true, or_cases, or_parts, true≢false}
use Rattle.std.proofs.lemmas.List.{drop-drop, take_all}
use Rattle.std.proofs.lemmas.Slice.Eq.{bytes_eq-Decides}
use Rattle.std.proofs.Math.Seq.{take-add}
use Rattle.cil_specs.specs.Place.{Place}
use Rattle.cil_specs.specs.Trees.{Trees, none, a_word, a_string, a_list, Reads}
use Rattle.cil_specs.proofs.OneReading.{one-reading}
use Rattle.cil_specs.specs.Shape.{Shapes, is_among, keywords}
use Rattle.cil_specs.specs.Statements as spec
use Rattle.cil_specs.specs.Statements.{Form, Statements, block, optional, rule, allow, auditallow, dontaudit, neverallow, is_optional, no_more}
use Rattle.cil_specs.proofs.FormLemmas.{OperandsFit, first_word, fits_begin}
use Rattle.cil_specs.proofs.Runs.{both_true}
use Rattle.cil_projection.specs.declared.part.Part.{Part}
use Rattle.cil_projection.specs.Pieces.{Piece, copied, part_of, rendered, spelled}
use Rattle.cil_projection.specs.Forms.{forms, fitting, or_else, taken_by}
use Rattle.cil_projection.specs.Conditions.{Settings, containers}
use Rattle.cil_projection.specs.Statements.{Projects, body_projected, by_names, conditional, one_projected, or_copied, projected, statement, tunable_projected}
use Rattle.cil_projection.specs.Laws.{first_words, has_keywords, kind_words}
use Rattle.cil_projection.proofs.StandLemmas.{Stands, reading_stands, stands_list, stands_string, stands_word}

-- the bytes up to an offset and those behind it
pub part_of_more : (text : List ℕ) (from mid to : ℕ) → from ≤ mid → mid ≤ to → part_of text from mid ++ part_of text mid to ≡ part_of text from to
part_of_more text from mid to le more =
    let behind : drop mid text ≡ drop (mid - from) (drop from text) =
    ap (λ n. drop n text) (let e : mid ≡ from + (mid - from) = omega arith in e) ∙ sym (drop-drop (mid - from) from text) in
    let whole : (mid - from) + (to - mid) ≡ to - from = omega arith in
    ap (λ l. part_of text from mid ++ take (to - mid) l) behind ∙ sym (take-add (mid - from) (to - mid) (drop from text))
    ∙ ap (λ n. take n (drop from text)) whole

pub rendered-append : (text : List ℕ) (xs ys : List Piece) → rendered text (xs ++ ys) ≡ rendered text xs ++ rendered text ys
rendered-append text [] ys = refl
rendered-append text (x ∷ xs) ys = ap (λ l. spelled text x ++ l) (rendered-append text xs ys) ∙ sym (append_assoc (spelled text x) (rendered text xs) (rendered text ys))

pub part_of_all : (text : List ℕ) → part_of text 0 (length text) ≡ text
part_of_all text = take_all (length text - 0) text (omega arith)

-- a word that begins no form is taken by none
fitting_none : (from to : ℕ) (rows : List (List ℕ × List Part)) (word : List ℕ) (arguments : Trees) → is_among (first_words rows) word ≡ false → fitting from to rows word arguments ≡ None
fitting_none from to [] word arguments other = refl
fitting_none from to ((keyword, parts) ∷ rows) word arguments other =
    let p = or_parts (bytes_eq word keyword) (is_among (first_words rows) word) other in
    ap (λ b. or_else (cond b (taken_by from to keyword parts arguments) None) (fitting from to rows word arguments)) p.0
    ∙ fitting_none from to rows word arguments p.1

-- what holds of each of some words holds of one that is among them
of_each : (P : List ℕ → Bool) (words : List (List ℕ)) (word : List ℕ) → list_all P words ≡ true → is_among words word ≡ true → P word ≡ true
of_each P [] word all is = absurd (true≢false (sym is))
of_each P (first ∷ words) word all is = by (or_cases (bytes_eq word first) (is_among words word) is) (of_each P words word parts.1)
  where
    parts : (P first ≡ true) × (list_all P words ≡ true)
    parts = and_parts (P first) (list_all P words) all

    by : (bytes_eq word first ≡ true) ⊎ (is_among words word ≡ true) → (is_among words word ≡ true → P word ≡ true) → P word ≡ true
    by (inl same) more = ap P ((bytes_eq-Decides word first).0 same) ∙ parts.0
    by (inr among) more = more among

-- the first words of statements that are taken by their names
abbrev words_by_names : List (List ℕ)
words_by_names = codes "booleanif" ∷ codes "tunableif" ∷ first_words forms

-- whether a word begins none of them
abbrev is_of_no_form : List ℕ → Bool
is_of_no_form word = not (is_among words_by_names word)

no_keyword_is : list_all is_of_no_form keywords ≡ true
unfolding forms
no_keyword_is = refl

-- they are those of the kinds that are listed

each_kind : list_all (is_among words_by_names) kind_words ≡ true
unfolding forms
each_kind = refl

each_form : list_all (is_among kind_words) words_by_names ≡ true
unfolding forms
each_form = refl

pub kinds_of_forms : (word : List ℕ) → is_among kind_words word ≡ is_among words_by_names word
kinds_of_forms word =
    both_ways (is_among kind_words word) (is_among words_by_names word)
    (of_each (is_among words_by_names) kind_words word each_kind) (of_each (is_among kind_words) words_by_names word each_form)

-- a statement of the language holds others, or it is copied
pub one_stays : (settings : Settings) (from to : ℕ) (place : Place) (word : List ℕ) (arguments : Trees) → is_among keywords word ≡ true
    → one_projected settings from to (a_word place word arguments) ≡ cond (is_among containers word) (body_projected settings from to arguments) (copied from to ∷ [])
one_stays settings from to place word arguments is =
    let p = or_parts (bytes_eq word (codes "booleanif")) (is_among (codes "tunableif" ∷ first_words forms) word) (not-true _ (of_each is_of_no_form keywords word no_keyword_is is)) in
    let q = or_parts (bytes_eq word (codes "tunableif")) (is_among (first_words forms) word) p.1 in
    let absent : statement settings from to word arguments ≡ None =
    ap (λ b. cond b (conditional settings from to arguments) (by_names from to word arguments)) p.0 ∙ fitting_none from to forms word arguments q.1 in
    ap (λ b. cond (is_among containers word) (body_projected settings from to arguments)
    (cond b (tunable_projected settings from to arguments) (or_copied from to (statement settings from to word arguments)))) q.0
    ∙ ap (λ found. cond (is_among containers word) (body_projected settings from to arguments) (or_copied from to found)) absent

-- a statement, and what stands in front of it and behind it
list_stays : (text : List ℕ) (from at end to : ℕ) (pieces others : List Piece) → from ≤ at → at ≤ end → end ≤ to
    → rendered text pieces ≡ part_of text at end → rendered text others ≡ part_of text end to
    → rendered text (copied from at ∷ (pieces ++ others)) ≡ part_of text from to
list_stays text from at end to pieces others le more most is rest =
    ap (λ l. part_of text from at ++ l) (rendered-append text pieces others ∙ ap (λ l. l ++ rendered text others) is ∙ ap (λ l. part_of text at end ++ l) rest
    ∙ part_of_more text at end to more most)
    ∙ part_of_more text from at to le (omega (arith, more, most))

copied_is : (text : List ℕ) (from to : ℕ) → rendered text (copied from to ∷ []) ≡ part_of text from to
copied_is text from to = append-nil (part_of text from to)

-- a statement of the language that holds no others is copied
other_stays : (settings : Settings) (text : List ℕ) (from to : ℕ) (place : Place) (word : List ℕ) (arguments : Trees) → is_among keywords word ≡ true
    → body_projected settings from to arguments ≡ copied from to ∷ []
    → rendered text (one_projected settings from to (a_word place word arguments)) ≡ part_of text from to
other_stays settings text from to place word arguments is copies =
    ap (rendered text) (one_stays settings from to place word arguments is) ∙ by (is_among containers word)
  where
    by : (b : Bool) → rendered text (cond b (body_projected settings from to arguments) (copied from to ∷ [])) ≡ part_of text from to
    by true = ap (rendered text) copies ∙ copied_is text from to
    by false = copied_is text from to

-- one with a name and what stands behind it
body_stays : (settings : Settings) (text : List ℕ) (from to : ℕ) (place second : Place) (word id : List ℕ) (body : Trees) → is_among keywords word ≡ true
    → (not (is_among containers word) || has_keywords body) ≡ true
    → (IsTrue (has_keywords body) → rendered text (projected settings true from body to) ≡ part_of text from to)
    → rendered text (one_projected settings from to (a_word place word (a_word second id body))) ≡ part_of text from to
body_stays settings text from to place second word id body is inner stays =
    ap (rendered text) (one_stays settings from to place word (a_word second id body) is) ∙ by (is_among containers word) inner
  where
    by : (b : Bool) → (not b || has_keywords body) ≡ true → rendered text (cond b (projected settings true from body to) (copied from to ∷ [])) ≡ part_of text from to
    by true inner = stays inner
    by false inner = copied_is text from to

-- the first of trees in order, and those behind it
first_stays : (settings : Settings) (text : List ℕ) (from : ℕ) (at : Place) (end : ℕ) (items rest : Trees) (to : ℕ) → Stands from (a_list at end items rest) to
    → rendered text (one_projected settings at.offset end items) ≡ part_of text at.offset end
    → (Stands end rest to → rendered text (projected settings true end rest to) ≡ part_of text end to)
    → rendered text (projected settings true from (a_list at end items rest) to) ≡ part_of text from to
first_stays settings text from at end items rest to h is others =
    let p = stands_list from at end items rest to h in
    list_stays text from at.offset end to (one_projected settings at.offset end items) (projected settings true end rest to) p.0 p.1 p.2 is (others p.4)

-- Trees in order, each list of which begins with a word of the language, are projected onto the text in which they stand.
language : (settings : Settings) (text : List ℕ) (trees : Trees) (from to : ℕ) → Stands from trees to → IsTrue (has_keywords trees) → rendered text (projected settings true from trees to) ≡ part_of text from to
language settings text none from to h is = copied_is text from to
language settings text (a_word at word rest) from to h is = language settings text rest from to (stands_word from at word rest to h) is
language settings text (a_string at bytes rest) from to h is = language settings text rest from to (stands_string from at bytes rest to h) is
language settings text (a_list at end none rest) from to h is = absurd (true≢false (sym is))
language settings text (a_list at end (a_string place bytes more) rest) from to h is = absurd (true≢false (sym is))
language settings text (a_list at end (a_list place last inner more) rest) from to h is = absurd (true≢false (sym is))
language settings text (a_list at end (a_word place word none) rest) from to h is =
    let p = and_parts (is_among keywords word) (has_keywords rest) is in
    first_stays settings text from at end (a_word place word none) rest to h (other_stays settings text at.offset end place word none p.0 refl)
    (λ k. language settings text rest end to k p.1)
language settings text (a_list at end (a_word place word (a_string second bytes more)) rest) from to h is =
    let p = and_parts (is_among keywords word) (has_keywords rest) is in
    first_stays settings text from at end (a_word place word (a_string second bytes more)) rest to h
    (other_stays settings text at.offset end place word (a_string second bytes more) p.0 refl) (λ k. language settings text rest end to k p.1)
language settings text (a_list at end (a_word place word (a_list second last inner more)) rest) from to h is =
    let p = and_parts (is_among keywords word) (has_keywords rest) is in
    first_stays settings text from at end (a_word place word (a_list second last inner more)) rest to h
    (other_stays settings text at.offset end place word (a_list second last inner more) p.0 refl) (λ k. language settings text rest end to k p.1)
language settings text (a_list at end (a_word place word (a_word second id body)) rest) from to h is =
    let p = and_parts (is_among keywords word) ((not (is_among containers word) || has_keywords body) && has_keywords rest) is in
    let q = and_parts (not (is_among containers word) || has_keywords body) (has_keywords rest) p.1 in
    let items = stands_list from at end (a_word place word (a_word second id body)) rest to h in
    let inner = stands_word at.offset second id body end (stands_word at.offset place word (a_word second id body) end items.3) in
    first_stays settings text from at end (a_word place word (a_word second id body)) rest to h
    (body_stays settings text at.offset end place second word id body p.0 q.0 (language settings text body at.offset end inner)) (λ k. language settings text rest end to k q.1)

-- the same for the trees of a whole text
pub language_whole : (settings : Settings) (text : List ℕ) (trees : Trees) → Reads text trees → IsTrue (has_keywords trees) → rendered text (projected settings true 0 trees (length text)) ≡ text
language_whole settings text trees reads is = language settings text trees 0 (length text) (reading_stands text trees reads) is ∙ part_of_all text

-- a list that begins with a word of the language and holds no others
plain_keyword : (at place : Place) (end : ℕ) (word : List ℕ) (operands rest : Trees) → is_among keywords word ≡ true → is_among containers word ≡ false → IsTrue (has_keywords rest)
    → IsTrue (has_keywords (a_list at end (a_word place word operands) rest))
plain_keyword at place end word none rest is other h = both_true _ _ is h
plain_keyword at place end word (a_string second bytes more) rest is other h = both_true _ _ is h
plain_keyword at place end word (a_list second last inner more) rest is other h = both_true _ _ is h
plain_keyword at place end word (a_word second id body) rest is other h =
    both_true _ _ is (ap (λ b. (not b || has_keywords body) && has_keywords rest) other ∙ h)

-- a statement's list, whatever its form
form_keyword : (form : Form) (at place : Place) (end : ℕ) (operands inner rest : Trees) → OperandsFit operands form inner → IsTrue (has_keywords inner) → IsTrue (has_keywords rest)
    → IsTrue (has_keywords (a_list at end (a_word place (first_word form) operands) rest))
form_keyword (block id) at place end operands inner rest fits h k =
    ap (λ operands. has_keywords (a_list at end (a_word place (codes "block") operands) rest)) fits.0 ∙ both_true _ _ h k
form_keyword (optional id) at place end operands inner rest fits h k =
    ap (λ operands. has_keywords (a_list at end (a_word place (codes "optional") operands) rest)) fits.0 ∙ both_true _ _ h k
form_keyword (rule allow source target permissions) at place end operands inner rest fits h k = plain_keyword at place end (codes "allow") operands rest refl refl k
form_keyword (rule auditallow source target permissions) at place end operands inner rest fits h k = plain_keyword at place end (codes "auditallow") operands rest refl refl k
form_keyword (rule dontaudit source target permissions) at place end operands inner rest fits h k = plain_keyword at place end (codes "dontaudit") operands rest refl refl k
form_keyword (rule neverallow source target permissions) at place end operands inner rest fits h k = plain_keyword at place end (codes "neverallow") operands rest refl refl k
form_keyword form at place end operands inner rest fits h k = plain_keyword at place end (first_word form) operands rest refl refl k

-- trees that spell statements are such
shapes_keywords : (statements : Statements) (inside : Bool) (trees : Trees) → Shapes inside trees statements → IsTrue (has_keywords trees)
shapes_keywords no_more inside trees h = ap has_keywords h
shapes_keywords (spec.statement at form body more) inside trees h =
    let b = fits_begin h.1 form h.2 h.5 in
    ap has_keywords (h.4 ∙ ap (λ parts. a_list at h.0 parts h.3) b.2)
    ∙ form_keyword form at b.0 h.0 b.1 h.2 h.3 b.3 (shapes_keywords body (inside || is_optional form) h.2 h.8) (shapes_keywords more inside h.3 h.9)

-- A text that spells statements is its own projection.

pub statements_whole : (settings : Settings) (text : List ℕ) (trees : Trees) (statements : Statements) → Reads text trees → Shapes false trees statements
    → rendered text (projected settings true 0 trees (length text)) ≡ text
statements_whole settings text trees statements reads shapes = language_whole settings text trees reads (shapes_keywords statements false trees shapes)

pub projection_whole : (settings : Settings) (text bytes : List ℕ) (trees : Trees) (statements : Statements) → Reads text trees → Shapes false trees statements → Projects settings text bytes → bytes ≡ text
projection_whole settings text bytes trees statements reads shapes projects =
    projects.3 ∙ ap (λ trees. rendered text (projected settings true 0 trees (length text))) (one-reading text projects.0 trees projects.1 reads)
    ∙ statements_whole settings text trees statements reads shapes
