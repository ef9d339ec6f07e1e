use Rattle.cil_optionals.proofs.Common.{◌≡◌, List, Some, true, map, take, list_all, Word, read, texts_of, permissions_in}
use Rattle.cil_optionals.proofs.permissions.Permissions.has_all.Given as goal

-- the class has so many of them
abbrev pub invariant-loop-word : goal.invariant-loop-word
invariant-loop-word g l = record {
  has : (list : List Word) → map (read (texts_of l.«module»)) l.words ≡ map Some list → list_all (λ word. permissions_in l.fn.self.listed.now l.class word.text) (take l.word-index list) ≡ true;
  listed : l.self.listed ≡ l.fn.self.listed;
  joined : l.self.joined ≡ l.fn.self.joined;
}
