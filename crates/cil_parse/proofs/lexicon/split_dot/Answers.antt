use Rattle.std.proofs.Common.{◌≡◌, position, sym, ◌∙◌, rules, tests}
use Rattle.std.proofs.lemmas.Iterator.{YieldsList-from_slice}
use Rattle.std.proofs.lemmas.Iterator.Search.{position_from_yields_List}
use Rattle.cil_parse.proofs.SplitLemmas.{is_dot, split-found, split-none}
use Rattle.cil_parse.proofs.lexicon.split_dot.Goals as goal

pub returns-in_err-at-clause-none : goal.returns-in_err-at-clause-none
returns-in_err-at-clause-none c =
    let found : c.position.result ≡ position is_dot c.args.text.now =
    position_from_yields_List is_dot _ _ c.position.result c.position.ensures.ran (YieldsList-from_slice c.args.text.now c.iter.ensures.rest) (λ x b q k. search (rules, tests)) in
    rw c.from_residual.ensures (split-none c.args.text.now (sym found ∙ c.in_err-at.was))

pub returns-clause-some : goal.returns-clause-some
returns-clause-some c =
    let found : c.position.result ≡ position is_dot c.args.text.now =
    position_from_yields_List is_dot _ _ c.position.result c.position.ensures.ran (YieldsList-from_slice c.args.text.now c.iter.ensures.rest) (λ x b q k. search (rules, tests)) in
    split-found c.args.text.now c.in_ok-at.at (sym found ∙ c.in_ok-at.was)
