use Rattle.cil_text.proofs.Common.{[], ◌∷◌, as_referred, word_of}
use Rattle.cil_text.proofs.FirstBad.{goes_first, checks_error}
use Rattle.cil_text.proofs.check.check_pair.Goals as goal

pub returns-in_err-check_word : goal.returns-in_err-check_word
returns-in_err-check_word c =
    let first = as_referred (word_of c.args.first) in
    let second = as_referred (word_of c.args.second) in
    checks_error (first ∷ second ∷ []) (first ∷ []) (second ∷ []) c.from_residual.result c.in_err-check_word.field-0.0 (goes_first (first ∷ second ∷ [])) c.in_err-check_word.ensures c.from_residual.ensures.1
