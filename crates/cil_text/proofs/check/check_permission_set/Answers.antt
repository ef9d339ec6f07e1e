use Rattle.cil_text.proofs.Common.{[], ◌∷◌, map, leaves, as_declared, as_referred, word_of, expr_of}
use Rattle.cil_text.proofs.FirstBad.{goes_first, checks_error}
use Rattle.cil_text.proofs.check.check_permission_set.Goals as goal

pub returns-in_err-check_word : goal.returns-in_err-check_word
returns-in_err-check_word g c =
    let first = as_referred (word_of c.args.set) in
    let rest = as_referred (word_of c.args.class) ∷ map as_declared (leaves (expr_of c.args.permissions.now)) in
    checks_error (first ∷ rest) (first ∷ []) rest c.from_residual.result c.in_err-check_word.field-0.0 (goes_first (first ∷ rest)) c.in_err-check_word.ensures c.from_residual.ensures.1
