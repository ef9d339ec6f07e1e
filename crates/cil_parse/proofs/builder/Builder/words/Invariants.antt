use Rattle.cil_parse.proofs.Common.{[], map, take, word_of, Adds}
use Rattle.cil_parse.proofs.builder.Builder.words.Given as goal

abbrev pub invariant-loop-word : goal.invariant-loop-word
invariant-loop-word g l = Adds l.initial.self l.self (map word_of (take l.word-index l.words)) []
