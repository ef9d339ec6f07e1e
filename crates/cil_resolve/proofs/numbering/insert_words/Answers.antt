use Rattle.cil_resolve.proofs.Common.{◌∙◌, sym, ap, fold, arith, take_all, with_name, texts, texts_of, no_word, word-read, as-many}
use Rattle.cil_resolve.proofs.NumberLemmas.{words-fold}
use Rattle.cil_resolve.proofs.numbering.insert_words.Goals as goal

pub text_of-requires : goal.text_of-requires
text_of-requires g c =
    let found = word-read (texts_of c.args.seen.now.«module».now) c.args.words.now c.requires.0 c.loop-word.word-index no_word c.requires.1 c.loop-word-test.true in
    (found.0, found.2)

pub loop-word-preserved : goal.loop-word-preserved
loop-word-preserved g c list shown =
    let i = c.loop-word.word-index in
    let found = word-read (texts_of c.args.seen.now.«module».now) c.args.words.now list i no_word shown c.loop-word-test.true in
    c.in_ok-insert.ensures.ok ∙ ap (with_name c.loop-word.names) (c.text_of.ensures found.0 found.2)
    ∙ ap (λ l. with_name l found.0.text) (c.loop-word.invariant list shown) ∙ sym (words-fold c.args.names.now list i found.0 found.1)

pub returns : goal.returns
returns g c list shown =
    let long = as-many (texts_of c.args.seen.now.«module».now) c.args.words.now list shown in
    let past = c.loop-word-test.false in
    c.loop-word.invariant list shown ∙ ap (λ l. fold with_name c.args.names.now (texts l)) (take_all c.loop-word.word-index list (omega (arith, long, past)))
