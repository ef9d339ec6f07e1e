use Rattle.cil_optionals.proofs.Common.{sym, ap, ◌∙◌, arith, list_all, take_all, read-text, read-within, texts_of, permissions_in, word-read, as-many}
use Rattle.cil_optionals.proofs.PermissionLemmas.{all-next, not-all, no_word}
use Rattle.cil_optionals.proofs.permissions.Permissions.has_all.Goals as goal

pub text-requires : goal.text-requires
text-requires g c =
    let texts = texts_of c.args.«module».now in
    let found = word-read texts c.args.words.now c.requires.0 c.loop-word.word-index no_word c.requires.1 c.loop-word-test.true in
    read-within texts _ found.0 found.2

pub returns-then-not-branch-clause-has : goal.returns-then-not-branch-clause-has
returns-then-not-branch-clause-has g c = λ list shown.
    let texts = texts_of c.args.«module».now in
    let found = word-read texts c.args.words.now list c.loop-word.word-index no_word shown c.loop-word-test.true in
    let named = read-text texts _ found.0 found.2 in
    sym (not-all (λ word. permissions_in c.args.self.now.listed.now c.args.class word.text) list c.loop-word.word-index found.0 found.1
    (ap (permissions_in c.args.self.now.listed.now c.args.class) (named ∙ sym c.text.ensures) ∙ ap (λ l. permissions_in l.now c.args.class c.text.result.now) (sym c.loop-word.invariant.listed) ∙ sym c.in_ok-has.ensures.has ∙ c.if-not-branch.true))

pub loop-word-preserved : goal.loop-word-preserved
loop-word-preserved g c = record {
  has = λ list shown.
      let texts = texts_of c.args.«module».now in
      let found = word-read texts c.args.words.now list c.loop-word.word-index no_word shown c.loop-word-test.true in
      let named = read-text texts _ found.0 found.2 in
      all-next (λ word. permissions_in c.args.self.now.listed.now c.args.class word.text) list c.loop-word.word-index found.0 found.1
      (ap (permissions_in c.args.self.now.listed.now c.args.class) (named ∙ sym c.text.ensures) ∙ ap (λ l. permissions_in l.now c.args.class c.text.result.now) (sym c.loop-word.invariant.listed) ∙ sym c.in_ok-has.ensures.has ∙ c.if-not-branch.false) (c.loop-word.invariant.has list shown);
  listed = c.in_ok-has.ensures.listed ∙ c.loop-word.invariant.listed;
  joined = c.in_ok-has.ensures.joined ∙ c.loop-word.invariant.joined;
}

pub returns-clause-has : goal.returns-clause-has
returns-clause-has g c = λ list shown.
    let long = as-many (texts_of c.args.«module».now) c.args.words.now list shown in
    let past = c.loop-word-test.false in
    sym (ap (list_all (λ word. permissions_in c.args.self.now.listed.now c.args.class word.text)) (sym (take_all c.loop-word.word-index list (omega (arith, long, past)))) ∙ c.loop-word.invariant.has list shown)
