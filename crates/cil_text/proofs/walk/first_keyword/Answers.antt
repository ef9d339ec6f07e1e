use Rattle.cil_text.proofs.Common.{sym, subst, place_of, word_of, trees_of, FaultIs, IsFirstOf}
use Rattle.cil_text.proofs.HeadingLemmas.{no_first_word, unsupported_first}
use Rattle.cil_text.proofs.walk.first_keyword.Goals as goal

pub returns-in_default-clause-err : goal.returns-in_default-clause-err
returns-in_default-clause-err c inside = no_first_word inside (place_of c.args.at) (trees_of c.args.items) c.in_default.ensures

pub returns-in_default-find-clause-err : goal.returns-in_default-find-clause-err
returns-in_default-find-clause-err c inside =
    let parts = trees_of c.args.items in
    let first = word_of c.in-Some.first in
    let operands = trees_of c.in-Some.operands in
    subst (λ fault. FaultIs fault (IsFirstOf inside (place_of c.args.at) parts)) (sym c.fault_at.ensures)
    (unsupported_first inside (place_of c.args.at) parts first operands c.in-Some.ensures c.in_default-find.ensures)
