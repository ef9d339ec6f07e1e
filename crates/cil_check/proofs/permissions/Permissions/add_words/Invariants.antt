use Rattle.cil_check.proofs.Common.{◌≡◌, ◌<◌, ◌||◌, ◌&&◌, ◌==◌, ℕ, [], false, List, map, length, take, bytes_eq, Some, list_any, AllByRecursion, IsDistinct, Word, has_name, texts, distinct, read, AreNumbersOf, texts_of, names_of, word_at, is_listed, IsOneName}
use Rattle.cil_check.proofs.permissions.Permissions.add_words.Given as goal

-- so many words are taken up
abbrev pub invariant-loop-word : goal.invariant-loop-word
invariant-loop-word g l = record {
  listed : (names : List (List ℕ)) (list : List Word) → IsDistinct bytes_eq names → AreNumbersOf names l.seen.words.now (names_of l.seen.«module».now)
      → map (read (texts_of l.seen.«module».now)) l.words ≡ map Some list → AllByRecursion IsOneName list → (k n : ℕ) → n < length names
      → list_any (is_listed k n) l.self.listed.keys ≡ (list_any (is_listed k n) l.fn.self.listed.keys || (k == l.owner && has_name (texts (take l.word-index list)) (word_at names n)));
  closed : l.self.words.0 ≡ l.fn.self.words.0;
  words : (names : List (List ℕ)) (list : List Word) → IsDistinct bytes_eq names → AreNumbersOf names l.seen.words.now (names_of l.seen.«module».now)
      → map (read (texts_of l.seen.«module».now)) l.words ≡ map Some list → AllByRecursion IsOneName list → ((n : ℕ) → n < length names → list_any (is_listed l.owner n) l.fn.self.listed.keys ≡ false)
      → l.fn.self.words.1 ≡ [] → AreNumbersOf names l.self.words.1 (distinct (texts (take l.word-index list)));
}
