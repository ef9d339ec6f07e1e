use Rattle.cil_optionals.proofs.Common.{◌≡◌, ◌||◌, ◌&&◌, ◌==◌, ℕ, List, Some, map, take, Word, has_name, texts, read, texts_of, lists, IsInverse}
use Rattle.cil_optionals.proofs.listed.Listed.list.Given as goal

-- so many words are taken up
abbrev pub invariant-loop-word : goal.invariant-loop-word
invariant-loop-word g l = record {
  listed : (list : List Word) → map (read (texts_of l.«module»)) l.words ≡ map Some list → (i : ℕ) (name : List ℕ)
      → lists l.self.listed.keys i name ≡ (lists l.fn.self.listed.keys i name || (i == l.place && has_name (texts (take l.word-index list)) name));
  inverse : IsInverse l.self;
  given : l.self.given.items ≡ l.fn.self.given.items;
}
