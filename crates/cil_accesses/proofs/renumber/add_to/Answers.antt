use Rattle.cil_accesses.proofs.Common.{◌≡◌, ◌∙◌, ◌<◌, ◌^◌, Bool, true, false, bit_or, get_or, if◌then◌else◌, refl, ap, arith, get_or_default, All-set, Chunk, nowhere, with_bits, of_one_key, taking_up}
use Rattle.cil_accesses.proofs.Renumbering.{taken-up}
use Rattle.cil_accesses.proofs.renumber.add_to.Goals as goal

-- the word stays
same-word : (c d : Chunk) → (taking_up c d).word ≡ c.word
same-word c d = by (of_one_key c d)
  where
    by : (b : Bool) → (if b then with_bits c (bit_or c.bits d.bits) else c).word ≡ c.word
    by true = refl
    by false = refl

pub returns-clause-same : goal.returns-clause-same
returns-clause-same g c =
    let at : c.index_mut.result.now ≡ get_or c.args.chunks.now.items c.args.place nowhere = c.index_mut.ensures.value ∙ get_or_default c.args.chunks.now.items c.args.place _ nowhere (omega arith) in
    taken-up c.args.chunks.now.items c.args.place nowhere c.args.chunk.now (omega arith) c.take_up.result c.take_up.new.self
    (c.take_up.ensures.same ∙ ap (λ k. of_one_key k c.args.chunk.now) at)
    (c.take_up.ensures.bits ∙ ap (λ k. taking_up k c.args.chunk.now) at)

pub returns-clause-words : goal.returns-clause-words
returns-clause-words g c =
    let at : c.index_mut.result.now ≡ get_or c.args.chunks.now.items c.args.place nowhere = c.index_mut.ensures.value ∙ get_or_default c.args.chunks.now.items c.args.place _ nowhere (omega arith) in
    let low = c.requires.words c.args.place nowhere (omega arith) in
    let word : c.take_up.new.self.word ≡ (get_or c.args.chunks.now.items c.args.place nowhere).word =
    ap (λ (k : Chunk). k.word) c.take_up.ensures.bits ∙ same-word c.index_mut.result.now c.args.chunk.now ∙ ap (λ (k : Chunk). k.word) at in
    All-set (λ k. k.word < 2 ^ 26) c.args.chunks.now.items c.args.place c.take_up.new.self (omega (arith, low, word)) c.requires.words
