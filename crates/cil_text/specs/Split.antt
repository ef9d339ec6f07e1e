-- Words and lists of words, where the code says by an option whether trees are them.
use Rattle.std.specs.Prelude.{◌≡◌, ◌≢◌, List, map, Option, Some, None, Vec}
use Rattle.cil_specs.specs.Names as spec
use Rattle.cil_specs.specs.Trees.{Trees}
use Rattle.cil_specs.specs.Shape.{put_word, all_words, IsWordList}
use Rattle.cil_text.specs.Image.{word_of}
use Rattle.cil_reader.specs.declared.word.Word.{Word}

-- the trees are these words, or not words alone
abbrev pub AreWords : {A : Type 0} → Trees → Option (Vec Word A) → Type 0
AreWords trees None = (words : List spec.Word) → trees ≢ all_words words
AreWords trees (Some v) = trees ≡ all_words (map word_of v.items)

-- the trees are a list of these words, or not one list of words
abbrev pub AreWordList : {A : Type 0} → Trees → Option (Vec Word A) → Type 0
AreWordList trees None = (words : List spec.Word) → IsWordList trees words → ⊥
AreWordList trees (Some v) = IsWordList trees (map word_of v.items)

-- the trees are this word and a list of these words, or not a word and one list of words
abbrev pub AreWordAndList : {A : Type 0} → Trees → Option (Word × Vec Word A) → Type 0
AreWordAndList trees None = (word : spec.Word) (list : Trees) (words : List spec.Word) → trees ≡ put_word word list → IsWordList list words → ⊥
AreWordAndList trees (Some (word, v)) = (list : Trees) × (trees ≡ put_word (word_of word) list) × IsWordList list (map word_of v.items)
