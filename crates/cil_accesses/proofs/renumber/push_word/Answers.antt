use Rattle.std.proofs.Common.{arith}
use Rattle.std.proofs.lemmas.Result.{on_ok_weaker}
use Rattle.cil_accesses.proofs.Shifts.{its-numbers, word-low, word-put}
use Rattle.cil_accesses.proofs.renumber.push_word.Goals as goal

pub bounds-numbers-chunk : goal.bounds-numbers-chunk
bounds-numbers-chunk g c = let (source, _, _) = its-numbers c.args.numbers.now c.args.chunk.now c.args.word c.args.bits c.requires.bits c.requires.within (omega arith) (omega arith) in omega (arith, source)

pub bounds-numbers-chunk-2 : goal.bounds-numbers-chunk-2
bounds-numbers-chunk-2 g c = let (_, the_class, _) = its-numbers c.args.numbers.now c.args.chunk.now c.args.word c.args.bits c.requires.bits c.requires.within (omega arith) (omega arith) in omega (arith, the_class)

pub bounds-numbers-chunk-3 : goal.bounds-numbers-chunk-3
bounds-numbers-chunk-3 g c = let (_, _, permission) = its-numbers c.args.numbers.now c.args.chunk.now c.args.word c.args.bits c.requires.bits c.requires.within (omega arith) (omega arith) in omega (arith, permission)

pub push_chunk-requires-clause-word : goal.push_chunk-requires-clause-word
push_chunk-requires-clause-word g c =
    word-low c.args.numbers.now c.args.chunk.now c.args.word c.args.bits c.requires.bits (λ i. omega (arith, c.type_inv.numbers i)) (omega arith) (omega arith)

pub returns-clause-same : goal.returns-clause-same
returns-clause-same g c =
    on_ok_weaker c.push_chunk.result (word-put c.args.numbers.now c.args.chunk.now c.args.word c.args.bits c.requires.bits c.args.made.now.items c.push_chunk.new.chunks.items) c.push_chunk.ensures.same
