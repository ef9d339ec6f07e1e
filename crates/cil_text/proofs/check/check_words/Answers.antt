use Rattle.cil_text.proofs.Common.{◌+◌, [], ◌∷◌, get_or, drop, subst, word_of, role_of}
use Rattle.cil_text.proofs.FirstBad.{GoesOn, checks_error}
use Rattle.cil_text.proofs.CheckLemmas.{of_words, words_from}
use Rattle.cil_text.proofs.check.check_words.Goals as goal

pub returns-in_err-check_word : goal.returns-in_err-check_word
returns-in_err-check_word c =
    let role = role_of c.args.role in
    let words = c.args.words.now in
    let i = c.loop-word.word-index in
    checks_error (of_words role words) ((role, word_of (get_or words i _)) ∷ []) (of_words role (drop (i + 1) words)) c.from_residual.result c.in_err-check_word.field-0.0
    (subst (GoesOn (of_words role words)) (words_from role words i _ c.loop-word-test.true) c.loop-word.invariant) c.in_err-check_word.ensures c.from_residual.ensures.1
