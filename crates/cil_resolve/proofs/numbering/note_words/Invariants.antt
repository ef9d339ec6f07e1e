use Rattle.cil_resolve.proofs.Common.{◌≡◌, ◌++◌, ℕ, List, length, map, take, Some, bytes_eq, AllByRecursion, IsDistinct, Word, texts, read, texts_of, IsOneName, HavePermissionsOf}
use Rattle.cil_parse.specs.Lexicon.{AreNumbersOf}
use Rattle.cil_parse.specs.Parsed.{names_of}
use Rattle.cil_resolve.proofs.numbering.note_words.Given as goal

abbrev pub invariant-loop-word : goal.invariant-loop-word
invariant-loop-word g l = record {
  long : length l.permissions.items ≡ length l.fn.permissions.items;
  noted : (all before : List (List ℕ)) (list : List Word) → AreNumbersOf all l.seen.words.now (names_of l.seen.«module».now) → map (read (texts_of l.seen.«module».now)) l.words ≡ map Some list
      → IsDistinct bytes_eq all → AllByRecursion IsOneName list → length l.fn.permissions.items ≡ length all → HavePermissionsOf all l.names before l.fn.permissions.items → HavePermissionsOf all l.names (before ++ texts (take l.word-index list)) l.permissions.items;
}
