use Rattle.cil_optionals.proofs.Common.{◌||◌, ◌&&◌, ◌==◌, bytes_eq, sym, ap, ◌∙◌, arith, take_all, has_name, texts, read-text, read-within, texts_of, lists, word-read, as-many}
use Rattle.cil_optionals.proofs.PermissionLemmas.{words-next, no_word}
use Rattle.cil_optionals.proofs.listed.Listed.list.Goals as goal

pub text-requires : goal.text-requires
text-requires g c =
    let texts = texts_of c.args.«module».now in
    let found = word-read texts c.args.words.now c.requires.words.0 c.loop-word.word-index no_word c.requires.words.1 c.loop-word-test.true in
    read-within texts _ found.0 found.2

pub loop-word-preserved : goal.loop-word-preserved
loop-word-preserved g c = record {
  listed = λ list shown i name.
      let module_texts = texts_of c.args.«module».now in
      let k = c.loop-word.word-index in
      let found = word-read module_texts c.args.words.now list k no_word shown c.loop-word-test.true in
      let named = read-text module_texts _ found.0 found.2 in
      words-next list k found.0 c.args.place i name (lists c.args.self.now.listed.keys i name) (lists c.loop-word.self.listed.keys i name) (lists c.insert.new.self.listed.keys i name)
      found.1 (c.loop-word.invariant.listed list shown i name)
      (c.in_ok-insert.ensures.listed i name ∙ ap (λ text. lists c.loop-word.self.listed.keys i name || (i == c.args.place && bytes_eq name text)) (c.text.ensures ∙ sym named));
  inverse = c.in_ok-insert.ensures.inverse;
  given = c.in_ok-insert.ensures.given ∙ c.loop-word.invariant.given;
}

pub returns-clause-listed : goal.returns-clause-listed
returns-clause-listed g c = λ list shown i name.
    let long = as-many (texts_of c.args.«module».now) c.args.words.now list shown in
    let past = c.loop-word-test.false in
    c.loop-word.invariant.listed list shown i name
    ∙ ap (λ l. lists c.args.self.now.listed.keys i name || (i == c.args.place && has_name (texts l) name)) (take_all c.loop-word.word-index list (omega (arith, long, past)))
