use Rattle.cil_text.proofs.Common.{sym, subst, MatchOption, Trees, none, IsListThen, trees_of}
use Rattle.cil_text.proofs.split.only_list.Goals as goal

pub returns-in_err-items : goal.returns-in_err-items
returns-in_err-items c =
    let trees = trees_of c.args.trees in
    subst (λ found. MatchOption found ((items : Trees) → IsListThen trees items none → ⊥) (λ items. IsListThen trees (trees_of items) none)) (sym c.from_residual.ensures)
    (λ items h. c.in_err-items.ensures items none h)
