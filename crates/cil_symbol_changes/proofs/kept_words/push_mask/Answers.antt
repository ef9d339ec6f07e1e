use Rattle.cil_symbol_changes.proofs.Common.{◌≡◌, ◌<◌, ◌++◌, ◌∷◌, [], ◌∙◌, ℕ, List, ap, arith, length, slice_index, subst, sym, Chunk, hit, AreGained, IsTo}
use Rattle.cil_symbol_changes.proofs.GainedLemmas.{gained-kept, known-mask}
use Rattle.cil_symbol_changes.proofs.kept_words.push_mask.Goals as goal

pub bounds-numbers-key : goal.bounds-numbers-key
bounds-numbers-key g c = (known-mask c.args.numbers.now c.args.key c.args.word c.args.mask (omega (arith, c.ranges.mask.fits)) c.requires.some c.requires.known).1.source

pub offset_bounds-numbers-key : goal.offset_bounds-numbers-key
offset_bounds-numbers-key g c = let below : c.args.key.source < length c.args.numbers.now = (known-mask c.args.numbers.now c.args.key c.args.word c.args.mask (omega (arith, c.ranges.mask.fits)) c.requires.some c.requires.known).1.source in omega arith

pub bounds-numbers-key-2 : goal.bounds-numbers-key-2
bounds-numbers-key-2 g c = (known-mask c.args.numbers.now c.args.key c.args.word c.args.mask (omega (arith, c.ranges.mask.fits)) c.requires.some c.requires.known).1.the_class

pub offset_bounds-numbers-key-2 : goal.offset_bounds-numbers-key-2
offset_bounds-numbers-key-2 g c = let below : c.args.key.class < length c.args.numbers.now = (known-mask c.args.numbers.now c.args.key c.args.word c.args.mask (omega (arith, c.ranges.mask.fits)) c.requires.some c.requires.known).1.the_class in omega arith

pub bounds-numbers-key-3 : goal.bounds-numbers-key-3
bounds-numbers-key-3 g c = (known-mask c.args.numbers.now c.args.key c.args.word c.args.mask (omega (arith, c.ranges.mask.fits)) c.requires.some c.requires.known).1.permission

pub offset_bounds-numbers-key-3 : goal.offset_bounds-numbers-key-3
offset_bounds-numbers-key-3 g c = let below : c.args.key.permission < length c.args.numbers.now = (known-mask c.args.numbers.now c.args.key c.args.word c.args.mask (omega (arith, c.ranges.mask.fits)) c.requires.some c.requires.known).1.permission in omega arith

pub returns : goal.returns
returns g c =
    let numbers = c.args.numbers.now in
    let key = c.args.key in
    let old : List Chunk = c.args.chunks.now.items in
    let same = c.in_ok-short_word.ensures.same in
    let low = c.in_ok-short_word.ensures.low in
    let made : ℕ → List Chunk = λ w. old ++ record { kind = key.kind; source = slice_index numbers key.source; word = w; class = slice_index numbers key.class; permission = slice_index numbers key.permission; bits = c.args.mask } ∷ [] in
    let pushed : c.push.new.self.items ≡ made c.args.word = c.in_ok-push.ensures.items ∙ ap made same in
    subst (AreGained (IsTo numbers key (λ t. 0 < hit c.args.word c.args.mask t)) old) (sym pushed) (gained-kept numbers key c.args.word c.args.mask c.requires.kept c.requires.known (omega (arith, same, low)) old)
