use Rattle.cil_resolve.proofs.Common.{◌≡◌, [], List, map, take, get_or, IsTrue, list_all, Placed, has_name, texts_of, IsLowering, AreNumbersIn, listed_names}
use Rattle.cil_parse.specs.Lexicon.{AreNumbersOf}
use Rattle.cil_parse.specs.Parsed.{names_of}
use Rattle.cil_resolve.proofs.lowering.Lowering.add_list.Given as goal

-- the numbers of so many permissions of the list came
abbrev pub invariant-loop-text : goal.invariant-loop-text
invariant-loop-text g l = record {
  closed : l.numbers.0 ≡ l.fn.numbers.0;
  came : (policy : List Placed) → IsLowering l.self policy → AreNumbersOf l.self.checker.now.bound.policy.now.names l.words (names_of l.«module»)
      → IsTrue (list_all (has_name (listed_names policy)) (map (λ t. get_or (texts_of l.«module») t []) l.text-items))
      → AreNumbersIn l.self.numbering.now.names.items (map (λ t. get_or (texts_of l.«module») t []) (take l.text-index l.text-items)) l.numbers.1;
}
