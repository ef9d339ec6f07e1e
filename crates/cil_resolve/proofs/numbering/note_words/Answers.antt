use Rattle.cil_resolve.proofs.Common.{◌≡◌, ◌<◌, ◌++◌, ◌∙◌, true, subst, length, sym, ap, arith, rules, take_all, length-set, slice_get_within, all-get, has_name, texts, texts_of, no_word, word-read, as-many, one-name-at, number_in, HavePermissionsOf}
use Rattle.cil_resolve.proofs.NumberLemmas.{note-next}
use Rattle.cil_resolve.proofs.numbering.note_words.Goals as goal

pub number-at-requires : goal.number-at-requires
number-at-requires g c =
    let (all, list, numbered, shown, single, have, long) = c.requires.is in
    let found = word-read (texts_of c.args.seen.now.«module».now) c.args.words.now list c.loop-word.word-index no_word shown c.loop-word-test.true in
    (found.0, found.2)

pub text_of-requires : goal.text_of-requires
text_of-requires g c =
    let (all, list, numbered, shown, single, have, long) = c.requires.is in
    let found = word-read (texts_of c.args.seen.now.«module».now) c.args.words.now list c.loop-word.word-index no_word shown c.loop-word-test.true in
    (found.0, found.2)

pub number_of-requires : goal.number_of-requires
number_of-requires g c =
    let (all, list, numbered, shown, single, have, long) = c.requires.is in
    let found = word-read (texts_of c.args.seen.now.«module».now) c.args.words.now list c.loop-word.word-index no_word shown c.loop-word-test.true in
    ap (has_name c.args.names.now) (c.text_of.ensures found.0 found.2) ∙ all-get (λ w. has_name c.args.names.now w.text ≡ true) list c.loop-word.word-index found.0 have found.1

pub index_mut-requires : goal.index_mut-requires
index_mut-requires g c =
    let (all, list, numbered, shown, single, have, long) = c.requires.is in
    let found = word-read (texts_of c.args.seen.now.«module».now) c.args.words.now list c.loop-word.word-index no_word shown c.loop-word-test.true in
    let low = slice_get_within all c.number-at.result found.0.text (c.number-at.ensures all found.0 numbered found.2 (one-name-at list c.loop-word.word-index found.0 single found.1)) in
    let same = c.loop-word.invariant.long in
    let below : c.number-at.result < length c.loop-word.permissions.items = omega (arith, low, long, same) in
    search rules

pub loop-word-preserved : goal.loop-word-preserved
loop-word-preserved g c = record {
  long = length-set c.loop-word.permissions.items c.number-at.result c.in_ok-number.number ∙ c.loop-word.invariant.long;
  noted = λ all before list numbered shown distinct single long kept.
      let i = c.loop-word.word-index in
      let found = word-read (texts_of c.args.seen.now.«module».now) c.args.words.now list i no_word shown c.loop-word-test.true in
      note-next all c.args.names.now before list i found.0 c.number-at.result c.in_ok-number.number c.loop-word.permissions.items distinct (c.loop-word.invariant.long ∙ long) found.1
      (c.number-at.ensures all found.0 numbered found.2 (one-name-at list i found.0 single found.1))
      (ap (number_in c.args.names.now) (sym (c.text_of.ensures found.0 found.2)) ∙ c.in_ok-number.ensures) (c.loop-word.invariant.noted all before list numbered shown distinct single long kept);
}

pub returns-clause-noted : goal.returns-clause-noted
returns-clause-noted g c all before list numbered shown distinct single long kept =
    let many = as-many (texts_of c.args.seen.now.«module».now) c.args.words.now list shown in
    let past = c.loop-word-test.false in
    subst (λ l. HavePermissionsOf all c.args.names.now (before ++ texts l) c.loop-word.permissions.items) (take_all c.loop-word.word-index list (omega (arith, many, past)))
    (c.loop-word.invariant.noted all before list numbered shown distinct single long kept)
