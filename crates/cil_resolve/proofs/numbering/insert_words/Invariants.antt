use Rattle.cil_resolve.proofs.Common.{◌≡◌, List, fold, map, take, Some, Word, with_name, texts, read, texts_of}
use Rattle.cil_resolve.proofs.numbering.insert_words.Given as goal

abbrev pub invariant-loop-word : goal.invariant-loop-word
invariant-loop-word g l = (list : List Word) → map (read (texts_of l.seen.«module».now)) l.words ≡ map Some list → l.names ≡ fold with_name l.fn.names (texts (take l.word-index list))
