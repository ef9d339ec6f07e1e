-- The words of a text have no line feed.
use Rattle.std.specs.Prelude.{◌≡◌, ℕ, ◌+◌, Bool, true, ◌&&◌, List, [], ◌∷◌, length, IsTrue, refl}
use Rattle.std.specs.List.{list_all}
use Rattle.std.proofs.Common.{◌∙◌, sym, ap}
use Rattle.std.proofs.lemmas.List.Folds.{list_all-append}
use Rattle.cil_specs.specs.Parts.{Part, Splits, white, comment, word, string, opening, closing, spelling}
use Rattle.cil_specs.specs.Trees.{Trees, Reads, Mark, none, a_word, a_string, a_list, marks, told, word_at, string_at, opening_at, closing_before}
use Rattle.cil_specs.proofs.Runs.{both_true}
use Rattle.cil_projection.proofs.FeedLemmas.{is_one_line, one_line_word}

-- whether each word among trees is such
abbrev pub words_are : (List ℕ → Bool) → Trees → Bool
words_are good none = true
words_are good (a_word at name rest) = good name && words_are good rest
words_are good (a_string at text rest) = words_are good rest
words_are good (a_list at end items rest) = words_are good items && words_are good rest

-- whether none of them has a line feed
abbrev pub have_one_line : Trees → Bool
have_one_line = words_are is_one_line

-- whether a mark is no word with one
abbrev mark_has_one_line : Mark → Bool
mark_has_one_line (word_at at name) = is_one_line name
mark_has_one_line (string_at at bytes) = true
mark_has_one_line (opening_at at) = true
mark_has_one_line (closing_before end) = true

marks_have : (trees : Trees) → list_all mark_has_one_line (marks trees) ≡ have_one_line trees
marks_have none = refl
marks_have (a_word at name rest) = ap (λ b. is_one_line name && b) (marks_have rest)
marks_have (a_string at text rest) = marks_have rest
marks_have (a_list at end items rest) =
    list_all-append mark_has_one_line (marks items) (closing_before end ∷ marks rest)
    ∙ ap (λ b. b && list_all mark_has_one_line (marks rest)) (marks_have items) ∙ ap (λ b. have_one_line items && b) (marks_have rest)

told_have : (bytes text : List ℕ) (at : ℕ) (parts : List Part) (rest : List ℕ) → Splits text parts rest → IsTrue (list_all mark_has_one_line (told bytes at parts))
told_have bytes text at [] rest splits = refl
told_have bytes text at (white b ∷ parts) rest splits = told_have bytes splits.0 (at + 1) parts rest splits.4
told_have bytes text at (comment more ∷ parts) rest splits = told_have bytes splits.0 (at + length (spelling (comment more))) parts rest splits.4
told_have bytes text at (word more ∷ parts) rest splits =
    both_true (is_one_line more) (list_all mark_has_one_line (told bytes (at + length more) parts)) (one_line_word more splits.2.1) (told_have bytes splits.0 (at + length more) parts rest splits.4)
told_have bytes text at (string more ∷ parts) rest splits = told_have bytes splits.0 (at + length (spelling (string more))) parts rest splits.4
told_have bytes text at (opening ∷ parts) rest splits = told_have bytes splits.0 (at + 1) parts rest splits.4
told_have bytes text at (closing ∷ parts) rest splits = told_have bytes splits.0 (at + 1) parts rest splits.4

pub reading_has_one_line : (text : List ℕ) (trees : Trees) → Reads text trees → IsTrue (have_one_line trees)
reading_has_one_line text trees reads =
    sym (marks_have trees) ∙ ap (list_all mark_has_one_line) (sym reads.2) ∙ told_have text text 0 reads.0 _ reads.1.splits
