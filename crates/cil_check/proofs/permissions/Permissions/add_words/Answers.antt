use Rattle.cil_check.proofs.Common.{◌||◌, ◌&&◌, ◌==◌, Some, map, refl, ap, ◌∙◌, arith, list_any, take_all, has_name, texts, distinct, texts_of, word_at, is_listed}
use Rattle.cil_check.proofs.PermissionLemmas.{no_word, words-next, word-read, as-many, one-name-at, nothing-more, open-first, open-next}
use Rattle.cil_check.proofs.permissions.Permissions.add_words.Goals as goal

pub loop-word-init : goal.loop-word-init
loop-word-init g c = record {
  listed = λ names list distinct numbered shown single k n less. nothing-more (list_any (is_listed k n) c.args.self.now.listed.keys) (k == c.args.owner);
  closed = refl;
  words = λ names list alone numbered shown single new opened. open-first names c.args.self.now.words.1 list opened;
}

pub number-requires : goal.number-requires
number-requires g c =
    let found = word-read (texts_of c.args.seen.now.«module».now) c.args.words.now c.requires.0 c.loop-word.word-index no_word c.requires.1 c.loop-word-test.true in
    (found.0, found.2)

pub loop-word-preserved : goal.loop-word-preserved
loop-word-preserved g c = record {
  listed = λ names list distinct numbered shown single k n less.
      let i = c.loop-word.word-index in
      let found = word-read (texts_of c.args.seen.now.«module».now) c.args.words.now list i no_word shown c.loop-word-test.true in
      words-next names list i found.0 c.number.result c.args.owner k n (list_any (is_listed k n) c.args.self.now.listed.keys) (list_any (is_listed k n) c.loop-word.self.listed.keys) (list_any (is_listed k n) c.add.new.self.listed.keys)
      distinct less found.1 (c.number.ensures names found.0 numbered found.2 (one-name-at list i found.0 single found.1)) (c.loop-word.invariant.listed names list distinct numbered shown single k n less) (c.in_ok-add.ensures.listed k n);
  closed = ap (λ w. w.0) c.in_ok-add.ensures.words ∙ c.loop-word.invariant.closed;
  words = λ names list alone numbered shown single new opened.
      let i = c.loop-word.word-index in
      let found = word-read (texts_of c.args.seen.now.«module».now) c.args.words.now list i no_word shown c.loop-word-test.true in
      let is = c.number.ensures names found.0 numbered found.2 (one-name-at list i found.0 single found.1) in
      open-next names list i found.0 c.number.result c.args.owner c.args.self.now.listed.keys c.loop-word.self.listed.keys c.loop-word.self.words.1 c.add.new.self.words.1 found.1 is new
      (λ n less. c.loop-word.invariant.listed names list alone numbered shown single c.args.owner n less) (ap (λ w. w.1) c.in_ok-add.ensures.words)
      (c.loop-word.invariant.words names list alone numbered shown single new opened);
}

pub returns : goal.returns
returns g c = record {
  listed = λ names list distinct numbered shown single k n less.
      let long = as-many (texts_of c.args.seen.now.«module».now) c.args.words.now list shown in
      let past = c.loop-word-test.false in
      c.loop-word.invariant.listed names list distinct numbered shown single k n less
      ∙ ap (λ l. list_any (is_listed k n) c.args.self.now.listed.keys || (k == c.args.owner && has_name (texts l) (word_at names n))) (take_all c.loop-word.word-index list (omega (arith, long, past)));
  closed = c.loop-word.invariant.closed;
  words = λ names list alone numbered shown single new opened.
      let long = as-many (texts_of c.args.seen.now.«module».now) c.args.words.now list shown in
      let past = c.loop-word-test.false in
      c.loop-word.invariant.words names list alone numbered shown single new opened
      ∙ ap (λ l. map Some (distinct (texts l))) (take_all c.loop-word.word-index list (omega (arith, long, past)));
}
