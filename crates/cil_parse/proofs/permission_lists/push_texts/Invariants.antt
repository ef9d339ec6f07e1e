use Rattle.std.proofs.Common.{◌≡◌, ◌++◌, map, take}
use Rattle.cil_parse.proofs.permission_lists.push_texts.Given as goal

abbrev pub invariant-loop-word : goal.invariant-loop-word
invariant-loop-word g l = l.lists ≡ (l.fn.lists.0, l.fn.lists.1 ++ map (λ w. w.text) (take l.word-index l.words))
