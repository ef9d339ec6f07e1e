use Rattle.std.proofs.Common.{◌≡◌, [], take}
use Rattle.cil_parse.specs.Lexicon.{seen}
use Rattle.cil_parse.proofs.copied.copies.Given as goal

abbrev pub invariant-loop-list : goal.invariant-loop-list
invariant-loop-list g l = l.copied ≡ (seen (take l.list-index l.lists), [])
