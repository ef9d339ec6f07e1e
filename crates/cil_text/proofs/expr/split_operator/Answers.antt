use Rattle.cil_text.proofs.Common.{◌∙◌, sym, ap, subst, MatchOption, a_word, HasNoOperator, place_of, trees_of, BeginsOperation}
use Rattle.cil_text.proofs.Spells.{no_word_first}
use Rattle.cil_text.proofs.expr.split_operator.Goals as goal

pub returns-in_err-word : goal.returns-in_err-word
returns-in_err-word c =
    let items = trees_of c.args.items in
    subst (λ result. MatchOption result (HasNoOperator items) (λ found. BeginsOperation items found.0 (trees_of found.1))) (sym c.from_residual.ensures)
    (no_word_first items c.in_err-word.ensures)

pub returns : goal.returns
returns c =
    let word = c.in_ok-word.word in
    let operands = trees_of c.in_ok-word.operands in
    (place_of word.at, c.in_ok-word.ensures ∙ ap (λ text. a_word (place_of word.at) text operands) c.in_ok-find.ensures)
