use Rattle.cil_text.proofs.Common.{◌∙◌, ℕ, [], IfErr, ap, subst, false, place_of, trees_of, tree_then, FaultIs, IsFirstOf, IsFirstAmong}
use Rattle.cil_text.proofs.FirstBad.{fault_weaker}
use Rattle.cil_text.proofs.WalkLemmas.{AreFound, found_start, found_fault}
use Rattle.cil_text.proofs.walk.next_statement.Goals as goal

pub returns-in-Err-clause-err : goal.returns-in-Err-clause-err
returns-in-Err-clause-err g c =
    let trees = trees_of c.args.trees in
    let list = c.in-List in
    let rest = trees_of c.in-Some.behind in
    let parts = trees_of list.items in
    let front = c.in-Some.ensures ∙ ap (λ tree. tree_then tree rest) list.is in
    fault_weaker (IsFirstOf false (place_of list.at) parts) (IsFirstAmong false trees) c.in-Err.fault
    (λ fault h. found_fault {A = ℕ} false trees (place_of list.at) list.end parts rest [] fault
    (subst (λ rest. AreFound {A = ℕ} false trees rest []) front (found_start {A = ℕ} false trees c.requires.lists)) h)
    (subst (λ r. IfErr r (λ fault. FaultIs fault (IsFirstOf false (place_of list.at) parts))) c.in-Err.is c.statement.ensures.err)
