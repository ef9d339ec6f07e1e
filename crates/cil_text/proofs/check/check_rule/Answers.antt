use Rattle.cil_text.proofs.Common.{[], ◌∷◌, ◌++◌, map, as_referred, target_words, permission_words, word_of, target_of, permissions_of}
use Rattle.cil_text.proofs.FirstBad.{goes_first, goes_more, checks_error}
use Rattle.cil_text.proofs.check.check_rule.Goals as goal

pub returns-in_err-check_word : goal.returns-in_err-check_word
returns-in_err-check_word g c =
    let source = as_referred (word_of c.args.source) in
    let targets = map as_referred (target_words (target_of c.args.target)) in
    let last = permission_words (permissions_of c.args.permissions.now) in
    let all = source ∷ (targets ++ last) in
    checks_error all (source ∷ []) (targets ++ last) c.from_residual.result c.in_err-check_word.field-0.0 (goes_first all) c.in_err-check_word.ensures c.from_residual.ensures.1

pub returns-in_err-check_target : goal.returns-in_err-check_target
returns-in_err-check_target g c =
    let source = as_referred (word_of c.args.source) in
    let targets = map as_referred (target_words (target_of c.args.target)) in
    let last = permission_words (permissions_of c.args.permissions.now) in
    let all = source ∷ (targets ++ last) in
    let behind = goes_more all (source ∷ []) (targets ++ last) (goes_first all) c.in_ok-check_word.ensures in
    checks_error all targets last c.from_residual-in_err-check_target.result c.in_err-check_target.field-0.0 behind c.in_err-check_target.ensures c.from_residual-in_err-check_target.ensures.1
