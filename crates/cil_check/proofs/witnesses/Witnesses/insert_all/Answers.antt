use Rattle.cil_check.proofs.Common.{permissions_in, texts_of}
use Rattle.cil_check.proofs.PermissionLemmas.{no_word, word-read}
use Rattle.cil_check.proofs.witnesses.Witnesses.insert_all.Goals as goal

pub number-word-requires : goal.number-word-requires
number-word-requires g c =
    let (policy, s, seen) = c.requires in
    let texts = texts_of c.args.seen.now.«module».now in
    let found = word-read texts c.permissions-word-items.result.now (permissions_in seen.f.form) c.loop-word.word-index no_word (c.permissions-word-items.ensures texts seen.f seen.shown) c.loop-word-test.true in
    (found.0, found.2)
